use Rattle.protocol.proofs.Ideal.{same_on_any_cycle}
use Rattle.protocol.proofs.laws.same_on_any_cycle.Goals as goal

pub returns : goal.returns
returns g c = same_on_any_cycle
