-- The two halves of a stream: the sender's window and the receiver's. What an acknowledgement releases, which slot a number stands
-- for, and how the slots move on. One text for every numbering of frames.
use Rattle.std.specs.Prelude.{◌≡◌, ℕ, suc, ◌+◌, ◌-◌, ◌%◌, ◌^◌, cond, List, [], ◌∷◌, ◌++◌, length, drop, set, Some, None, Option, ◌<◌, ◌≤◌, nat_le, nat_lt}
use Rattle.frame.specs.declared.Frame.{Frame}
use Rattle.frame.specs.declared.Frame.TheVariants.{Bare, Laden}
use Rattle.protocol.specs.declared.Placement.{Placement}
use Rattle.protocol.specs.declared.Placement.TheVariants.{Slot, Outside, Bare as BareFrame}

-- how frames are numbered: which number lies so many places after another, and how far a second number lies after a first
pub record Numbering : Type 0 where
  pub after : ℕ → ℕ → ℕ
  pub distance : ℕ → ℕ → ℕ

-- the numbers below m, which then start over, so that each lies less than m after every other
abbrev pub cyclic : ℕ → Numbering
cyclic m = record { after = λ x k. (x + k) % m; distance = λ x y. (y + (m - x % m)) % m }

-- numbers that never start over. One that lies behind is farther than any window is wide
abbrev pub endless : Numbering
endless = record { after = λ x k. x + k; distance = λ x y. cond (nat_le x y) (y - x) (2 ^ 64) }

-- how many elements an acknowledgement releases, where so many are held and the first has the number low: its distance from low, if
-- that many are held
abbrev pub released : Numbering → (low held ack : ℕ) → ℕ
released numbers low held ack = let d = numbers.distance low ack in cond (nat_le d held) d 0

-- the slot that a number stands for, of a window of slots whose first has the number base
abbrev pub slot_for : Numbering → (base window number : ℕ) → Option ℕ
slot_for numbers base window number = let d = numbers.distance base number in cond (nat_lt d window) (Some d) None

-- what becomes of an element whose number stands for this slot, or for none
abbrev pub place_at : Option ℕ → Placement
place_at None = Outside
place_at (Some d) = Slot d

-- d is how far number lies after first: the one distance shorter than a cycle of m that leads there
pub record LiesAfter (m first number d : ℕ) : Type 0 where
  pub below : d < m
  pub leads : (first + d) % m ≡ number % m

-- so many elements are released of those held, the first of which has the number low: as many as lead to the acknowledgement, if so
-- many are held; else none
pub record Releases (m low held ack released : ℕ) : Type 0 where
  pub all : (d : ℕ) → LiesAfter m low ack d → d ≤ held → released ≡ d
  pub none : (d : ℕ) → LiesAfter m low ack d → held < d → released ≡ 0

-- an element with this number goes into the slot of the window that stands for it, where slot d stands for base + d; else nowhere. An
-- element with a number never makes a frame bare
abbrev pub GoesTo : (m base window number : ℕ) → Placement → Type 0
GoesTo m base window number (Slot d) = LiesAfter m base number d × (d < window)
GoesTo m base window number Outside = (d : ℕ) → LiesAfter m base number d → window ≤ d
GoesTo m base window number BareFrame = ⊥

-- the sender of a stream: the elements that it holds until they are acknowledged, and the number of the first
pub record Sender (E : Type 0) : Type 0 where
  pub low : ℕ
  pub held : List E

-- its receiver: the slots, each free or filled, and the number that the first stands for
pub record Receiver (E : Type 0) : Type 0 where
  pub base : ℕ
  pub slots : List (Option E)

module _ {E : Type 0} where
  -- the sender with one more element behind those held
  abbrev pub holding : E → Sender E → Sender E
  holding e s = record { low = s.low; held = s.held ++ (e ∷ []) }

  -- the sender after an acknowledgement: what that releases is held no more, and low is its number. Where it lies farther from low than
  -- elements are held, nothing changes
  abbrev pub acknowledged : Numbering → ℕ → Sender E → Sender E
  acknowledged numbers ack s =
      let d = numbers.distance s.low ack in
      cond (nat_le d (length s.held)) (record { low = ack; held = drop d s.held }) s

  -- how many slots are filled before the first free one
  abbrev pub first_free : List (Option E) → ℕ
  first_free (Some e ∷ xs) = suc (first_free xs)
  first_free xs = 0

  -- the number of the first free slot: what a receiver acknowledges
  abbrev pub next_free : Numbering → Receiver E → ℕ
  next_free numbers r = numbers.after r.base (first_free r.slots)

  -- the slots with e in slot d; without a slot they stay as they are
  abbrev pub filled : Option ℕ → E → List (Option E) → List (Option E)
  filled None e xs = xs
  filled (Some d) e xs = set xs d (Some e)

  -- the receiver after a frame, whose element fills the slot that its number stands for, if there is one
  abbrev pub hearing : Numbering → (window : ℕ) → Frame E → Receiver E → Receiver E
  hearing numbers window (Bare ack) r = r
  hearing numbers window (Laden ack number e) r = record { base = r.base; slots = filled (slot_for numbers r.base window number) e r.slots }

  -- what becomes of the frame's element
  abbrev pub placement : Numbering → (window : ℕ) → Frame E → Receiver E → Placement
  placement numbers window (Bare ack) r = BareFrame
  placement numbers window (Laden ack number e) r = place_at (slot_for numbers r.base window number)

  -- the acknowledgement of a frame
  abbrev pub ack_of : Frame E → ℕ
  ack_of (Bare ack) = ack
  ack_of (Laden ack number e) = ack

  -- what the first slot holds
  abbrev pub first_slot : List (Option E) → Option E
  first_slot [] = None
  first_slot (x ∷ xs) = x

  -- the receiver after the first slot's element was passed, if it held one: the slots move down by one
  abbrev pub moved_on : Numbering → Option E → Receiver E → Receiver E
  moved_on numbers None r = r
  moved_on numbers (Some e) r = record { base = numbers.after r.base 1; slots = drop 1 r.slots ++ (None ∷ []) }
