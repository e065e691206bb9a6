use Rattle.std.specs.Fn.{iterate}
use Rattle.protocol.specs.Histories.{does}
use Rattle.protocol.specs.Machine.Act.{deliver}
use Rattle.link.specs.Courses.{Undergoes}
use Rattle.link.proofs.link.settling.empty.Given as goal

abbrev pub invariant-loop : goal.invariant-loop
invariant-loop g l =
    Undergoes g.I.Kind.coding g.O.Kind.coding g.A.Gauge.state (λ c d. iterate (does c d (deliver 0)) l.counter)
    l.fn.to l.to l.fn.air l.air
