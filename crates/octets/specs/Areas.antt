-- Areas: memory of a fixed size that is written from its front.
use Rattle.std.specs.Prelude.{ℕ, List, ◌++◌, length, drop, Some, None, Ok, Err, Option, Result}
use Rattle.refusal.specs.declared.Refusal.{Refusal}

-- an area after some bytes were written into its front; its rest is untouched
abbrev pub front : List ℕ → List ℕ → List ℕ
front bs area = bs ++ drop (length bs) area

-- what a call answers that writes some bytes into the front of an area, and what the area then holds: how many bytes these are,
-- unless there is a refusal, which leaves the whole area untouched
abbrev pub written_unless : Option Refusal → List ℕ → List ℕ → Result ℕ Refusal × List ℕ
written_unless None bs area = (Ok (length bs), front bs area)
written_unless (Some r) bs area = (Err r, area)
