use Rattle.std.proofs.Common.{◌≡◌, ◌++◌, ℕ, List, [], map, length, get_or, take, drop, set, length-take, sym, ap, ◌∙◌, arith, rules}
use Rattle.std.proofs.lemmas.List.{append-nil, drop_all, drop-map, get_or-map, length-map, map-append, map-set, take_all, take-map}
use Rattle.std.proofs.lemmas.List.Edits.{map_over_more}
use Rattle.std.proofs.lemmas.Grind.{common_steps}
use Rattle.air.specs.Places.{nothing}
use Rattle.air.specs.Waiting.{raised, overtaken}
use Rattle.shelf.specs.Cells.{frame_in}
use Rattle.shelf.proofs.CellLaws.{frames_raised, raised_in}
use Rattle.shelf.proofs.cells.Cells.raise_counts.Goals as goal

-- the cell that comes next holds the frame that it held at first
pub overflow_add-cell : goal.overflow_add-cell
overflow_add-cell c =
    let i = c.loop-cell.cell-index in
    let small = c.requires.small i (omega (arith, length-take {A = List ℕ})) in
    let next = ap (λ ws. (get_or ws i nothing).count) c.loop-cell.invariant in
    grind (arith, common_steps, small, next)

pub loop-cell-preserved : goal.loop-cell-preserved
loop-cell-preserved c =
    let i = c.loop-cell.cell-index in
    let items = c.loop-cell.cell-items in
    let cell = get_or items i [] in
    let long : length cell ≡ 36 = search rules in
    map-set frame_in items i _ ∙ ap (set (map frame_in items) i) (raised_in cell (omega arith))
    ∙ map_over_more raised _ (map frame_in items) i (frame_in cell) (simp length-map (omega arith)) c.loop-cell.invariant (sym (get_or-map frame_in items i [] _ (omega arith)))

pub returns-clause-frames : goal.returns-clause-frames
returns-clause-frames c =
    let t = c.args.self.now in
    let k = c.args.k in
    let ws = map frame_in t.memory.now in
    let all : map frame_in c.loop-cell.cell-items ≡ map raised (take k ws) = grind (arith, take_all, drop_all, take-map, append-nil, length-map) in
    let is : map frame_in (c.loop-cell.cell-items ++ drop k t.memory.now) ≡ map raised (take k ws) ++ drop k ws = simp (map-append, drop-map, all) in
    sym (take-map frame_in _ _) ∙ ap (take t.used) is ∙ frames_raised k t.used ws (omega arith) ∙ ap (overtaken k) (take-map frame_in _ _)
