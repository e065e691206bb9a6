-- What a board shows.
use Rattle.std.specs.Prelude.{◌≡◌, ℕ, ◌+◌, List, [], ◌∷◌, ◌++◌, length, map, Some, None, min}
use Rattle.std.specs.List.{last_or}
use Rattle.board.specs.declared.Board.{Board}

-- where the count stays: the greatest number of 32 bits
abbrev pub top : ℕ
top = 4294967295

-- boards for elements of a kind K, whose headlines are of the type H
module _ {K H : Type 0} (headline : K → H) where
  -- the board on which these elements were posted, in this sequence, and no others: the headline of the last one, and none at
  -- first; and how many they are, up to the top
  abbrev pub shown : List K → Board K H
  shown es = record { latest = last_or None (map headline es); count = min (length es) top }

  -- a board after one more element was posted
  abbrev pub posted : K → Board K H → Board K H
  posted e b = record { latest = Some (headline e); count = min (b.count + 1) top }

  -- a board after these elements were posted, one after another
  abbrev pub all_posted : List K → Board K H → Board K H
  all_posted [] b = b
  all_posted (e ∷ es) b = all_posted es (posted e b)

  -- whatever was posted before: a board that showed just that shows these elements behind it. A new board shows that none were
  pub record ExtendedBy (fs : List K) (before after : Board K H) : Type 0 where
    pub shows : (es : List K) → before ≡ shown es → after ≡ shown (es ++ fs)
