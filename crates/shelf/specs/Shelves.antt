-- The air that a shelf means, and what holds of it.
use Rattle.std.specs.Prelude.{List}
use Rattle.std.proofs.Common.{arith}
use Rattle.std.proofs.ByRecursion.{All-from_get_or}
use Rattle.std.proofs.lemmas.List.{length-map, length-take}
use Rattle.air.specs.Waiting.{AirState, Waiting}
use Rattle.air.specs.Steps.{Bytes, Fine, Sound}
use Rattle.air.specs.Places.{nothing}
use Rattle.shelf.specs.declared.Shelf.{Shelf}
use Rattle.shelf.specs.declared.cells.Cells.{Cells}
use Rattle.shelf.specs.Cells.{frames_in, cell_state}

-- the frames that wait in some cells
abbrev pub frames_of : Cells → List (Waiting Bytes)
frames_of t = frames_in t.used t.memory.now

-- what a shelf means
abbrev pub shelf_state : Shelf → AirState Bytes
shelf_state s = cell_state s.cells.memory.now s.cells.used s.bound

-- what holds of every air holds of a shelf
pub shelf_sound : (s : Shelf) → Sound (shelf_state s)
shelf_sound s = (simp (length-map, length-take) (omega arith), s.small, All-from_get_or (Fine s.bound) (frames_of s.cells) nothing s.each)
