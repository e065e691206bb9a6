use Rattle.std.proofs.Common.{[]}
use Rattle.protocol.specs.Histories.{sent_over, up_to}
use Rattle.link.specs.Courses.{UndergoBoth}
use Rattle.link.proofs.link.settling.send_all.Given as goal

abbrev pub invariant-loop-k : goal.invariant-loop-k
invariant-loop-k g l =
    UndergoBoth g.O.Kind.coding g.I.Kind.coding g.A.Gauge.state (λ c d. up_to l.k (sent_over c d))
    l.fn.from l.from l.fn.to l.to l.fn.air l.air []
