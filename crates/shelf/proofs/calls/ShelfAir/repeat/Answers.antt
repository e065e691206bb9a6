use Rattle.std.proofs.Common.{sym, subst, arith}
use Rattle.std.proofs.lemmas.List.{get_or-map, get_or-take, length-map, length-take}
use Rattle.std.proofs.lemmas.Option.{slice_get-get_or}
use Rattle.air.specs.Places.{EachFine, nothing}
use Rattle.air.proofs.FineLaws.{below_bound, each_overtaken}
use Rattle.air.proofs.StepLaws.{answer_free}
use Rattle.shelf.specs.Shelves.{frames_of, shelf_state}
use Rattle.shelf.proofs.calls.ShelfAir.repeat.Goals as goal

-- before a place that is not barred, each count is below the bound, and so below 255
pub raise_counts-requires-clause-small : goal.raise_counts-requires-clause-small
raise_counts-requires-clause-small c = λ i before.
    let s = c.args.self.now in
    let free = answer_free c.args.k (shelf_state s) (grind arith) in
    let less = below_bound s.bound c.args.k i (frames_of s.cells) s.each free.1 (omega arith) (omega arith) in
    grind (arith, get_or-map, get_or-take, length-map, length-take, less)

pub invariant_of-self-clause-each : goal.invariant_of-self-clause-each
invariant_of-self-clause-each c =
    let s = c.args.self.now in
    let free = answer_free c.args.k (shelf_state s) (grind arith) in
    subst (EachFine s.bound) (sym c.raise_counts.ensures.frames) (each_overtaken s.bound _ _ s.each free.1)

pub returns : goal.returns
returns c =
    let s = c.args.self.now in
    let free = answer_free c.args.k (shelf_state s) (grind arith) in
    let here = slice_get-get_or (frames_of s.cells) c.args.k nothing free.0 in
    grind (arith, get_or-map, get_or-take, length-map, length-take, here)
