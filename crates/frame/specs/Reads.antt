-- What reading bytes answers: the frame in them, or the refusal with the smallest number and then the lowest place.
use Rattle.std.specs.Prelude.{ℕ, ◌+◌, ◌-◌, Bool, cond, not, ◌&&◌, ◌||◌, List, length, take, drop, Ok, Err, Result, ◌==◌, nat_lt, slice_index}
use Rattle.octets.specs.Checks.{check}
use Rattle.octets.specs.Numbers.{number16}
use Rattle.element.specs.Kinds.{Coding, element_from}
use Rattle.refusal.specs.Refusals.{unless}
use Rattle.refusal.specs.declared.Refusal.{Refusal}
use Rattle.refusal.specs.declared.Refusal.TheVariants.{FrameLength, MarkOrVersion, WrongCheck, WrongField, NoElement}
use Rattle.frame.specs.Formats.{not_below_cycle, sender_byte}
use Rattle.frame.specs.declared.Format.{Format}
use Rattle.frame.specs.declared.Frame.{Frame}
use Rattle.frame.specs.declared.Frame.TheVariants.{Bare, Laden}
use Rattle.frame.specs.declared.Side.{Side}
use Rattle.frame.specs.declared.header.Header.{Header}
use Rattle.frame.specs.declared.header.Tag.{Tag}
use Rattle.frame.specs.declared.header.Tag.TheVariants.{Bare as BareTag, Laden as LadenTag}
use Rattle.frame.specs.declared.reader.Parts.{Parts}

-- whether the last two of some bytes are the check of those before
abbrev pub is_sealed : List ℕ → Bool
is_sealed bs = not (nat_lt (length bs) 2) && check (take (length bs - 2) bs) == number16 (slice_index bs (length bs - 2)) (slice_index bs (length bs - 1))

-- whether bytes begin with the mark and the version
abbrev pub is_marked : List ℕ → Bool
is_marked bs = slice_index bs 0 == 0x4D && slice_index bs 1 == 0x48 && slice_index bs 2 == 0x4C && slice_index bs 3 == 0 && slice_index bs 4 == 1

-- the header in front of some bytes
abbrev pub header_in : List ℕ → Header
header_in bs = record {
  tag = slice_index bs 5;
  sender = slice_index bs 6;
  ack = number16 (slice_index bs 7) (slice_index bs 8);
  number = number16 (slice_index bs 9) (slice_index bs 10);
  width = slice_index bs 11;
}

-- the bytes between the header and the check
abbrev pub carried_in : List ℕ → List ℕ
carried_in bs = take (length bs - 14) (drop 12 bs)

-- the tag that a byte stands for
abbrev pub tag_in : ℕ → Result Tag Refusal
tag_in byte = cond (byte == 1) (Ok BareTag) (cond (byte == 2) (Ok LadenTag) (Err (WrongField 5)))

-- a bare frame: its header tells the number 0 and the width 0, and it carries nothing
abbrev pub bare_in : Header → List ℕ → Result (Frame (List ℕ)) Refusal
bare_in h carried =
    cond (not (h.number == 0)) (Err (WrongField 9))
    (cond (not (h.width == 0 && length carried == 0)) (Err (WrongField 11))
    (Ok (Bare h.ack)))

-- a laden frame: its header tells the width of the kind, and it carries as many bytes
abbrev pub laden_in : ℕ → Header → List ℕ → Result (Frame (List ℕ)) Refusal
laden_in width h carried =
    cond (not (h.width == width && length carried == width)) (Err (WrongField 11))
    (Ok (Laden h.ack h.number carried))

-- the frame that a header says, from a sender, with a kind that is so wide
abbrev pub frame_in : Side → ℕ → Header → List ℕ → Result (Frame (List ℕ)) Refusal
frame_in sender width h carried =
    cond (not (h.tag == 1 || h.tag == 2)) (Err (WrongField 5))
    (cond (not (h.sender == sender_byte sender)) (Err (WrongField 6))
    (cond (h.tag == 1) (bare_in h carried) (laden_in width h carried)))

-- a frame, unless one of its numbers is not below its cycle
abbrev pub kept_on_cycle : Format → Result (Frame (List ℕ)) Refusal → Result (Frame (List ℕ)) Refusal
kept_on_cycle format (Ok f) = unless f (not_below_cycle format f)
kept_on_cycle format (Err r) = Err r

-- the header and what lies between it and the check, in bytes of a right length that begin with the mark and the version
abbrev pub parts_in : List ℕ → Result (Header × List ℕ) Refusal
parts_in bs =
    cond (nat_lt (length bs) 14 || nat_lt 32 (length bs)) (Err FrameLength)
    (cond (not (is_marked bs)) (Err MarkOrVersion)
    (Ok (header_in bs, carried_in bs)))

-- the parts that were found, with the bytes that a reference to what is carried points to
abbrev pub parts_seen : Result Parts Refusal → Result (Header × List ℕ) Refusal
parts_seen (Ok p) = Ok (p.header, p.element.now)
parts_seen (Err r) = Err r

-- the frame that such parts are, for a kind that is so wide, if the bytes end with their check
abbrev pub frame_of : Format → ℕ → List ℕ → Result (Header × List ℕ) Refusal → Result (Frame (List ℕ)) Refusal
frame_of format width bs (Ok p) = cond (not (is_sealed bs)) (Err (WrongCheck (length bs - 2))) (kept_on_cycle format (frame_in format.sender width p.0 p.1))
frame_of format width bs (Err r) = Err r

-- the frame in some bytes, for a kind that is so wide
abbrev pub read_from : Format → ℕ → List ℕ → Result (Frame (List ℕ)) Refusal
read_from format width bs = frame_of format width bs (parts_in bs)

module _ {K : Type 0} (kind : Coding K) where
  -- the frame with its element read, or the refusal at the element's first field at fault
  abbrev pub with_element : ℕ → ℕ → Result K ℕ → Result (Frame K) Refusal
  with_element ack number (Ok e) = Ok (Laden ack number e)
  with_element ack number (Err at) = Err (NoElement (12 + at))

  -- what was read, with its element read too
  abbrev pub element_read : Result (Frame (List ℕ)) Refusal → Result (Frame K) Refusal
  element_read (Ok (Bare ack)) = Ok (Bare ack)
  element_read (Ok (Laden ack number bs)) = with_element ack number (element_from kind bs)
  element_read (Err r) = Err r

  -- what bytes say to who expects this kind
  abbrev pub hear_from : Format → List ℕ → Result (Frame K) Refusal
  hear_from format bs = element_read (read_from format kind.width bs)
