use Rattle.protocol.proofs.Ideal.{like_ideal}
use Rattle.protocol.proofs.laws.like_ideal.Goals as goal

pub returns : goal.returns
returns g c = like_ideal
