use Rattle.std.proofs.Common.{arith}
use Rattle.link.proofs.Phases.{delivered, delivered_all}
use Rattle.link.proofs.link.settling.empty.Goals as goal

pub loop-preserved : goal.loop-preserved
loop-preserved g c = delivered c.loop.counter c.deliver.result c.loop.invariant c.deliver.ensures.step c.deliver.ensures.air

pub returns : goal.returns
returns g c = delivered_all c.loop.counter (omega arith) c.loop.invariant
