use Rattle.std.proofs.Common.{arith, ap, sym}
use Rattle.std.proofs.lemmas.Grind.{common_steps}
use Rattle.tight.proofs.TightLaws.{lost_tight}
use Rattle.tight.proofs.Kept.{keeps, lose_keeps}
use Rattle.tight.proofs.calls.TightAir.lose.Goals as goal

pub returns-clause-step : goal.returns-clause-step
returns-clause-step g c =
    let t = c.args.self.now in
    let after = lost_tight t.given c.args.k (g.A.Gauge.state t.below) in
    grind (arith, common_steps)

pub returns-clause-below : goal.returns-clause-below
returns-clause-below g c =
    let s = g.A.Gauge.state in
    let t = c.args.self.now in
    keeps s t c.lose.new.self _ (sym (ap (λ r. r.1) c.lose.ensures)) (lose_keeps t.given (s t.below) c.args.k)
