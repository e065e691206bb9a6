-- The word that marks the filled slots of a receiver.
use Rattle.std.specs.Prelude.{ℕ, ◌+◌, ◌*◌, List, [], ◌∷◌, Some, None, Option}

module _ {E : Type 0} where
  -- the mark of a slot: 1 if it is filled, 0 if it is free
  abbrev pub mark_of : Option E → ℕ
  mark_of None = 0
  mark_of (Some e) = 1

  -- the marks of all slots in one word: bit d is the mark of slot d
  abbrev pub marks_of : List (Option E) → ℕ
  marks_of [] = 0
  marks_of (x ∷ xs) = mark_of x + 2 * marks_of xs
