use Rattle.protocol.proofs.Queued.{queues}
use Rattle.protocol.proofs.laws.queues.Goals as goal

pub returns : goal.returns
returns g c = queues
