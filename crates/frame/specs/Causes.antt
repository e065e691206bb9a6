-- All causes for which bytes are no frame, each by itself, in the order of their numbers and places.
use Rattle.std.specs.Prelude.{◌≡◌, ℕ, ◌-◌, Bool, true, false, cond, not, ◌&&◌, ◌||◌, List, [], ◌∷◌, length, Some, None, Ok, Err, Option, Result, ◌==◌, nat_lt}
use Rattle.refusal.specs.Refusals.{number_of, place_of}
use Rattle.refusal.specs.declared.Refusal.{Refusal}
use Rattle.refusal.specs.declared.Refusal.TheVariants.{FrameLength, MarkOrVersion, WrongCheck, WrongField, NumberPastCycle}
use Rattle.frame.specs.Formats.{sender_byte}
use Rattle.frame.specs.Reads.{carried_in, header_in, is_marked, is_sealed}
use Rattle.frame.specs.declared.Format.{Format}
use Rattle.frame.specs.declared.header.Header.{Header}

-- a refusal, and whether its cause applies
pub record Cause : Type 0 where
  pub refusal : Refusal
  pub applies : Bool

-- a cause in the table: its refusal, and whether it applies
abbrev pub cause : Refusal → Bool → Cause
cause r b = record { refusal = r; applies = b }

-- how many bytes a frame is to carry by its tag: none if bare, the kind's width if laden
abbrev pub carried_width : ℕ → Header → ℕ
carried_width width h = cond (h.tag == 1) 0 width

-- the causes in a header and the bytes that follow it
abbrev pub header_causes : Format → ℕ → Header → List ℕ → List Cause
header_causes format width h carried =
    cause (WrongField 5) (not (h.tag == 1) && not (h.tag == 2))
    ∷ cause (WrongField 6) (not (h.sender == sender_byte format.sender))
    ∷ cause (WrongField 9) (h.tag == 1 && not (h.number == 0))
    ∷ cause (WrongField 11) (not (h.width == carried_width width h) || not (length carried == carried_width width h))
    ∷ cause (NumberPastCycle 7) (not (nat_lt h.ack format.cycles.ack))
    ∷ cause (NumberPastCycle 9) (h.tag == 2 && not (nat_lt h.number format.cycles.number))
    ∷ []

-- the causes in some bytes
abbrev pub causes : Format → ℕ → List ℕ → List Cause
causes format width bs =
    cause FrameLength (nat_lt (length bs) 14 || nat_lt 32 (length bs))
    ∷ cause MarkOrVersion (not (is_marked bs))
    ∷ cause (WrongCheck (length bs - 2)) (not (is_sealed bs))
    ∷ header_causes format width (header_in bs) (carried_in bs)

-- the first cause that applies
abbrev pub first_cause : List Cause → Option Refusal
first_cause [] = None
first_cause (c ∷ cs) = cond c.applies (Some c.refusal) (first_cause cs)

-- the refusal in an answer
abbrev pub refusal_in : {A : Type 0} → Result A Refusal → Option Refusal
refusal_in (Ok x) = None
refusal_in (Err r) = Some r

-- whether one place comes before another; a refusal without a place comes first
abbrev pub place_before : Option ℕ → Option ℕ → Bool
place_before None None = false
place_before None (Some q) = true
place_before (Some p) None = false
place_before (Some p) (Some q) = nat_lt p q

-- whether one refusal is told before another: by its number, and where these are equal by its place
abbrev pub before : Refusal → Refusal → Bool
before r s = nat_lt (number_of r) (number_of s) || (number_of r == number_of s && place_before (place_of r) (place_of s))

-- each cause comes before the next
abbrev pub Ascending : List Cause → Type 0
Ascending [] = Unit {0}
Ascending (c ∷ []) = Unit {0}
Ascending (c ∷ d ∷ cs) = (before c.refusal d.refusal ≡ true) × Ascending (d ∷ cs)

-- the answer tells the first cause that applies, and each cause in the table comes before the next by its number and then by its
-- place: so no cause that applies has a smaller number, or the same number and a lower place
pub record SmallestFirst {A : Type 0} (format : Format) (width : ℕ) (bs : List ℕ) (r : Result A Refusal) : Type 0 where
  pub first : refusal_in r ≡ first_cause (causes format width bs)
  pub ascending : Ascending (causes format width bs)
