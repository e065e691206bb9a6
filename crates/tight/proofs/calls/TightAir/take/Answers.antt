use Rattle.std.proofs.Common.{◌≡◌, None, min, rules, ap, sym}
use Rattle.air.specs.Steps.{answer_refusal}
use Rattle.tight.specs.Tightened.{tightened}
use Rattle.tight.proofs.TightLaws.{bytes_capped, free_there, taken_tight}
use Rattle.tight.proofs.Kept.{keeps, take_keeps}
use Rattle.tight.proofs.calls.TightAir.take.Goals as goal

pub returns-clause-step : goal.returns-clause-step
returns-clause-step g c =
    let t = c.args.self.now in
    let a = g.A.Gauge.state t.below in
    let free : answer_refusal c.args.k (tightened t.given a) ≡ None = search rules in
    let same = bytes_capped (min t.given a.bound) c.args.k a.waiting in
    let there = free_there t.given c.args.k a free in
    let after = taken_tight t.given c.args.k a free in
    search rules

pub returns-clause-below : goal.returns-clause-below
returns-clause-below g c =
    let s = g.A.Gauge.state in
    let t = c.args.self.now in
    let free : answer_refusal c.args.k (tightened t.given (s t.below)) ≡ None = search rules in
    keeps s t c.take.new.self _ (sym (ap (λ r. r.1) c.take.ensures)) (take_keeps t.given (s t.below) c.args.k free c.args.area.now)
