-- Where a receiver places an element.
use Rattle.std.specs.Prelude.{ℕ, length, Option}
use Rattle.protocol.specs.Windows.{Numbering, Receiver, filled, slot_for}

module _ {E : Type 0} where
  -- the slot of a receiver that a number stands for, if there is one
  abbrev pub slot_of : Numbering → (number : ℕ) → Receiver E → Option ℕ
  slot_of numbers number r = slot_for numbers r.base (length r.slots) number

  -- the receiver after the element with this number was placed: it fills the slot that the number stands for, if there is one
  abbrev pub placing : Numbering → (number : ℕ) → E → Receiver E → Receiver E
  placing numbers number e r = record r { slots = filled (slot_of numbers number r) e r.slots }
