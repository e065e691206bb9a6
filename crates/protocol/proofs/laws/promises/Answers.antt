use Rattle.protocol.proofs.Exactness.{promises}
use Rattle.protocol.proofs.laws.promises.Goals as goal

pub returns : goal.returns
returns g c = promises
