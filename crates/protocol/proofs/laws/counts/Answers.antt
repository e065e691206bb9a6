use Rattle.protocol.proofs.Counted.{counts}
use Rattle.protocol.proofs.laws.counts.Goals as goal

pub returns : goal.returns
returns g c = counts
