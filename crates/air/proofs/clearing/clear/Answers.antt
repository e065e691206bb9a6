use Rattle.std.proofs.Common.{◌≡◌, length, ap, ◌∙◌, ⊎_elim, arith, rules}
use Rattle.std.proofs.lemmas.Bool.{cases_lt}
use Rattle.std.proofs.lemmas.List.{nil_from_length}
use Rattle.air.specs.Waiting.{with_waiting}
use Rattle.air.proofs.StepLaws.{lost_one}
use Rattle.air.proofs.clearing.clear.Goals as goal

pub loop-youngest-smaller : goal.loop-youngest-smaller
loop-youngest-smaller g c =
    let s = g.A.Gauge.state in
    (lost_one c.in-Some.youngest (s c.loop-youngest.air) (s c.lose.new.self) c.lose.result (search rules) c.lose.ensures).1

pub loop-youngest-preserved : goal.loop-youngest-preserved
loop-youngest-preserved g c =
    let s = g.A.Gauge.state in
    (lost_one c.in-Some.youngest (s c.loop-youngest.air) (s c.lose.new.self) c.lose.result (search rules) c.lose.ensures).0
    ∙ ap (λ a. with_waiting a (s c.lose.new.self).waiting) c.loop-youngest.invariant

pub returns : goal.returns
returns g c =
    let s = g.A.Gauge.state in
    let few : length (s c.loop-youngest.air).waiting ≡ 0 = ⊎_elim (λ l. omega (arith, l, c.waiting.ensures)) (λ l. absurd (c.in_default.ensures l)) (cases_lt c.waiting.result 1) in
    c.loop-youngest.invariant ∙ ap (with_waiting (s c.args.air.now)) (nil_from_length (s c.loop-youngest.air).waiting few)
