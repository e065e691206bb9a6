use Rattle.protocol.proofs.Promised.{records_cover}
use Rattle.protocol.proofs.laws.records_cover.Goals as goal

pub returns : goal.returns
returns g c = records_cover
