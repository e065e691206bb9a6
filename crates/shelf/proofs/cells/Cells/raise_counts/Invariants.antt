use Rattle.std.proofs.Common.{◌≡◌, ◌++◌, map, take, drop}
use Rattle.air.specs.Waiting.{raised}
use Rattle.shelf.specs.Cells.{frame_in}
use Rattle.shelf.proofs.cells.Cells.raise_counts.Given as goal

-- the frames of the cells that the loop has passed are raised, the others are as they were
abbrev pub invariant-loop-cell : goal.invariant-loop-cell
invariant-loop-cell l =
    map frame_in l.cell-items ≡ map raised (take l.cell-index (map frame_in l.initial.cell-items)) ++ drop l.cell-index (map frame_in l.initial.cell-items)
