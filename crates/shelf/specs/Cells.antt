-- Frames in cells of 36 bytes: the length, the count, two bytes that are not used, and room for 32 bytes.
use Rattle.std.specs.Prelude.{ℕ, ◌/◌, min, List, map, length, take, drop, slice_index}
use Rattle.air.specs.Waiting.{Waiting, AirState}
use Rattle.air.specs.Steps.{Bytes}

-- the waiting frame in a cell: as many bytes as its length tells, of those that there is room for, and its count
abbrev pub frame_in : List ℕ → Waiting Bytes
frame_in cell = record { frame = take (slice_index cell 0) (drop 4 cell); count = slice_index cell 1 }

-- the waiting frames in the first cells
abbrev pub frames_in : ℕ → List (List ℕ) → List (Waiting Bytes)
frames_in used cells = map frame_in (take used cells)

-- how many cells a memory has: one for each whole 36 bytes, 1,000 at most
abbrev pub cell_count : List ℕ → ℕ
cell_count memory = min (length memory / 36) 1000

-- cells of which the first hold the waiting frames, as an air: there is room for a frame in each, for 1,000 at most
abbrev pub cell_state : List (List ℕ) → ℕ → ℕ → AirState Bytes
cell_state cells used bound = record { waiting = frames_in used cells; capacity = min (length cells) 1000; bound = bound }
