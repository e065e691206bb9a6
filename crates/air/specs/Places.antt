-- Waiting frames by their places: the form in which an air of a fixed layout keeps what holds of each of its frames.
use Rattle.std.specs.Prelude.{ℕ, ◌<◌, List, [], length, slice_index_or}
use Rattle.air.specs.Waiting.{Waiting, fresh}
use Rattle.air.specs.Steps.{Bytes, Fine}

-- what is read past the last waiting frame
abbrev pub nothing : Waiting Bytes
nothing = fresh []

-- each waiting frame is fine
abbrev pub EachFine : ℕ → List (Waiting Bytes) → Type 0
EachFine bound ws = (k : ℕ) → k < length ws → Fine bound (slice_index_or ws k nothing)
