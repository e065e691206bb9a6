-- What a kind of element says of its values, and what making, writing and reading answer for every kind.
use Rattle.std.specs.Prelude.{ℕ, ◌<◌, Bool, cond, List, [], ◌∷◌, Some, None, Err, Option, Result}
use Rattle.octets.specs.Areas.{written_unless}
use Rattle.refusal.specs.Refusals.{unless}
use Rattle.refusal.specs.declared.Refusal.{Refusal}
use Rattle.refusal.specs.declared.Refusal.TheVariants.{FieldOutOfRange}

-- a field of a value: its offset from the element's first byte, and whether it is out of range
pub record Field : Type 0 where
  pub offset : ℕ
  pub outside : Bool

-- a field at this offset, and whether it is out of range
abbrev pub field : ℕ → Bool → Field
field at out = record { offset = at; outside = out }

-- the fields stand in the order of their offsets
abbrev pub InOrder : List Field → Type 0
InOrder [] = Unit {0}
InOrder (f ∷ []) = Unit {0}
InOrder (f ∷ g ∷ fs) = (f.offset < g.offset) × InOrder (g ∷ fs)

-- the offset of the first field out of range
abbrev pub first_fault : List Field → Option ℕ
first_fault [] = None
first_fault (f ∷ fs) = cond f.outside (Some f.offset) (first_fault fs)

-- a kind: how many bytes its elements have, the fields of a value in their order, the bytes of a value, and the value that
-- bytes hold, if they hold one
pub record Coding (K : Type 0) : Type 0 where
  pub width : ℕ
  pub fields : K → List Field
  pub written : K → List ℕ
  pub value : List ℕ → Option K

-- the refusal of a value given by itself, by the offset of its first field out of range
abbrev pub out_of_range : Option ℕ → Option Refusal
out_of_range None = None
out_of_range (Some at) = Some FieldOutOfRange

module _ {K : Type 0} (kind : Coding K) where
  -- the offset of a value's first field out of range; a value that has none is an element
  abbrev pub fault_of : K → Option ℕ
  fault_of e = first_fault (kind.fields e)

  -- a value made into an element
  abbrev pub made_from : K → Result K Refusal
  made_from e = unless e (out_of_range (fault_of e))

  -- an element written into the front of an area
  abbrev pub element_into : K → List ℕ → Result ℕ Refusal × List ℕ
  element_into e area = written_unless (out_of_range (fault_of e)) (kind.written e) area

  -- a value that was read, unless it has a field at fault; bytes that hold no value at all are at fault from offset 0
  abbrev pub in_range : Option K → Result K ℕ
  in_range None = Err 0
  in_range (Some e) = unless e (fault_of e)

  -- the element that bytes hold, or the offset of the first field at fault
  abbrev pub element_from : List ℕ → Result K ℕ
  element_from bs = in_range (kind.value bs)
