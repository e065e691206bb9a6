use Rattle.std.proofs.Common.{◌≡◌, length}
use Rattle.air.specs.Waiting.{with_waiting}
use Rattle.air.proofs.clearing.clear.Given as goal

-- only the waiting frames are others
abbrev pub invariant-loop-youngest : goal.invariant-loop-youngest
invariant-loop-youngest g l = let was = g.A.Gauge.state l.initial.air in let is = g.A.Gauge.state l.air in is ≡ with_waiting was is.waiting

abbrev pub decreases-loop-youngest : goal.decreases-loop-youngest
decreases-loop-youngest g l = length (g.A.Gauge.state l.air).waiting
