-- The bytes of a frame, and the cycles that its numbers are taken from.
use Rattle.std.specs.Prelude.{◌≡◌, ℕ, cond, List, [], ◌∷◌, ◌++◌, length, Some, None, Ok, Err, Option, Result, nat_lt}
use Rattle.std.specs.Option.{option_or}
use Rattle.octets.specs.Checks.{check}
use Rattle.octets.specs.Numbers.{bytes16}
use Rattle.refusal.specs.declared.Refusal.{Refusal}
use Rattle.refusal.specs.declared.Refusal.TheVariants.{NumberPastCycle}
use Rattle.frame.specs.declared.Format.{Format}
use Rattle.frame.specs.declared.Frame.{Frame}
use Rattle.frame.specs.declared.Frame.TheVariants.{Bare, Laden}
use Rattle.frame.specs.declared.Side.{Side}
use Rattle.frame.specs.declared.Side.TheVariants.{Mast, Hut}
use Rattle.frame.specs.declared.header.Header.{Header}

-- the side at the other end
abbrev pub other_side : Side → Side
other_side Mast = Hut
other_side Hut = Mast

-- the byte that names a side as the sender
abbrev pub sender_byte : Side → ℕ
sender_byte Mast = 1
sender_byte Hut = 2

-- the twelve bytes of a header: the mark "MHL", version 1, and the fields
abbrev pub header_bytes : Header → List ℕ
header_bytes h = 0x4D ∷ 0x48 ∷ 0x4C ∷ 0 ∷ 1 ∷ h.tag ∷ h.sender ∷ (bytes16 h.ack ++ (bytes16 h.number ++ (h.width ∷ [])))

-- some bytes with their check behind them
abbrev pub sealed_bytes : List ℕ → List ℕ
sealed_bytes bs = bs ++ bytes16 (check bs)

-- the header of a frame that carries its element as bytes
abbrev pub header_of : Side → Frame (List ℕ) → Header
header_of side (Bare ack) = record { tag = 1; sender = sender_byte side; ack = ack; number = 0; width = 0 }
header_of side (Laden ack number element) = record { tag = 2; sender = sender_byte side; ack = ack; number = number; width = length element }

-- the bytes that a frame carries
abbrev pub carried : Frame (List ℕ) → List ℕ
carried (Bare ack) = []
carried (Laden ack number element) = element

-- the bytes of a frame: its header, what it carries, and the check of both
unfoldable pub frame_bytes : Side → Frame (List ℕ) → List ℕ
frame_bytes side f = sealed_bytes (header_bytes (header_of side f) ++ carried f)

module _ {A B : Type 0} (f : A → B) where
  -- the same frame with another form of its element
  abbrev pub mapped : Frame A → Frame B
  mapped (Bare ack) = Bare ack
  mapped (Laden ack number element) = Laden ack number (f element)

  -- the same of the frame in an answer
  abbrev pub mapped_answer : Result (Frame A) Refusal → Result (Frame B) Refusal
  mapped_answer (Ok x) = Ok (mapped x)
  mapped_answer (Err e) = Err e

-- the refusal of a number, at its place, that is not below its cycle
abbrev pub not_below : ℕ → ℕ → ℕ → Option Refusal
not_below place number cycle = cond (nat_lt number cycle) None (Some (NumberPastCycle place))

-- the refusal of a frame whose acknowledgement or number is not below its cycle; the acknowledgement is told first
abbrev pub not_below_cycle : {E : Type 0} → Format → Frame E → Option Refusal
not_below_cycle format (Bare ack) = not_below 7 ack format.cycles.ack
not_below_cycle format (Laden ack number element) = option_or (not_below 7 ack format.cycles.ack) (not_below 9 number format.cycles.number)

-- a frame with an element that is so wide, or with none
abbrev pub OfWidth : ℕ → Frame (List ℕ) → Type 0
OfWidth width (Bare ack) = Unit {0}
OfWidth width (Laden ack number element) = length element ≡ width
