-- What it means that a stream delivers.
use Rattle.std.specs.Prelude.{◌≡◌, ℕ, ◌+◌, ◌-◌, ◌*◌, ◌≤◌, ◌<◌, ◌⊎◌, List, [], ◌++◌, length, take, drop, replicate, Some, None, slice_get}
use Rattle.protocol.specs.Machine.{Stream}
use Rattle.protocol.specs.Histories.{Log}

module _ {E : Type 0} where
  -- what was passed is a beginning of what was accepted, at most two windows behind
  abbrev pub InStep : (window : ℕ) → Log E → Type 0
  InStep window log = (log.passed ≡ take (length log.passed) log.accepted) × (length log.accepted ≤ length log.passed + 2 * window)

  -- what a stream owes: the elements that were accepted and not yet passed
  abbrev pub owed : Log E → List E
  owed log = drop (length log.passed) log.accepted

  -- accepted element i, counted from 0, is held by the sender, which holds the last ones of those accepted
  abbrev pub IsHeld : Stream E → Log E → ℕ → Type 0
  IsHeld s log i =
      let t = length log.accepted in
      let h = length s.sender.held in
      (t ≤ i + h) × (slice_get s.sender.held (i + h - t) ≡ slice_get log.accepted i)

  -- it is placed at the receiver, in slot i - p, where p elements were passed
  abbrev pub IsPlaced : Stream E → Log E → ℕ → Type 0
  IsPlaced s log i = slice_get s.receiver.slots (i - length log.passed) ≡ Some (slice_get log.accepted i)

  -- each element that is owed is held or placed
  abbrev pub Kept : Stream E → Log E → Type 0
  Kept s log = (i : ℕ) → length log.passed ≤ i → i < length log.accepted → IsHeld s log i ⊎ IsPlaced s log i

  -- a stream with this log delivers
  pub record Delivers (window : ℕ) (s : Stream E) (log : Log E) : Type 0 where
    pub in_step : InStep window log
    pub kept : Kept s log

  -- a call has settled a stream, whose log was before: it has passed exactly what was owed, nothing is held or placed, and both ends are
  -- at the same number
  pub record StreamSettled (window : ℕ) (s : Stream E) (before after : Log E) : Type 0 where
    pub passed : after.passed ≡ before.passed ++ owed before
    pub none_held : s.sender.held ≡ []
    pub none_placed : s.receiver.slots ≡ replicate window None
    pub same_number : s.sender.low ≡ s.receiver.base
