use Rattle.std.proofs.Common.{◌∙◌, refl, arith, rules}
use Rattle.std.proofs.lemmas.Iterator.{YieldsList-from_range}
use Rattle.std.proofs.lemmas.Iterator.Search.{any_from_yields_List}
use Rattle.air.proofs.Places.{barred_any, is_at_bound}
use Rattle.air.proofs.checks.is_barred.Goals as goal

pub returns : goal.returns
returns g c =
    let a = g.A.Gauge.state c.args.air.now in
    any_from_yields_List (is_at_bound a.bound a.waiting) _ _ _ c.any.ensures.ran (YieldsList-from_range 0 c.args.k c.args.k refl (omega arith)) (λ x b q k. search rules)
    ∙ barred_any a.bound a.waiting c.args.k c.requires
