-- An air held to a bound that may be smaller than its own.
use Rattle.std.specs.Prelude.{ℕ, min, map}
use Rattle.air.specs.Waiting.{Waiting, AirState}

module _ {W : Type 0} where
  -- a waiting frame whose count reads as the bound where it is above it
  abbrev pub capped : ℕ → Waiting W → Waiting W
  capped bound w = record { frame = w.frame; count = min w.count bound }

  -- the same frames and capacity under the smaller of the bound given and the air's own, each count capped at that bound. After a tight
  -- air was made and any calls on it no count is above the bound, so that the list is the same (`SameList`)
  abbrev pub tightened : ℕ → AirState W → AirState W
  tightened given a = record {
    waiting = map (capped (min given a.bound)) a.waiting;
    capacity = a.capacity;
    bound = min given a.bound;
  }
