use Rattle.protocol.proofs.Encoded.{same_with_any_codec}
use Rattle.protocol.proofs.laws.same_with_any_codec.Goals as goal

pub returns : goal.returns
returns g c = same_with_any_codec
