use Rattle.std.proofs.Common.{arith}
use Rattle.link.proofs.Phases.{sent_all, sent_next}
use Rattle.link.proofs.link.settling.send_all.Goals as goal

pub loop-k-preserved : goal.loop-k-preserved
loop-k-preserved g c =
    sent_next c.send.result c.deliver.result c.loop-k.k c.loop-k.invariant
    c.send.ensures.step c.send.ensures.air c.deliver.ensures.step c.deliver.ensures.air

pub returns : goal.returns
returns g c = sent_all c.loop-k.k (omega arith) c.loop-k.invariant
