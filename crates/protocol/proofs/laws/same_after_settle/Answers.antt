use Rattle.protocol.proofs.Promised.{same_after_settle}
use Rattle.protocol.proofs.laws.same_after_settle.Goals as goal

pub returns : goal.returns
returns g c = same_after_settle
