use Rattle.std.proofs.Common.{◌-◌, ◌∙◌, ◌==◌, length, drop, sym, arith, rules}
use borrow.Author.Tests.{tests}
use Rattle.std.proofs.lemmas.Iterator.{YieldsList-from_slice}
use Rattle.std.proofs.lemmas.Iterator.Search.{all_from_yields_List}
use Rattle.std.proofs.lemmas.List.{length-drop, take_all}
use Rattle.worked.proofs.Blanks.{whole_area}
use Rattle.worked.proofs.verdicts.holds_only.Goals as goal

pub returns-then-starts_with-clause-test : goal.returns-then-starts_with-clause-test
returns-then-starts_with-clause-test c =
    let n = length c.args.bytes.now in
    let behind = drop n c.args.area.now in
    let long = c.told-area in
    let items = YieldsList-from_slice behind (c.iter.ensures.rest ∙ take_all (32 - n) behind (simp length-drop (omega arith))) in
    rw (← c.if-starts_with.ensures.value) (all_from_yields_List (λ b. b == 0xAA) _ _ c.all.result c.all.ensures.ran items (λ x b q k. search (rules, tests)))

pub returns-then-starts_with-clause-whole : goal.returns-then-starts_with-clause-whole
returns-then-starts_with-clause-whole c held =
    whole_area c.args.area.now c.args.bytes.now c.told-area (sym (returns-then-starts_with-clause-test c) ∙ held)
