-- What writing a frame answers, and what the area then holds.
use Rattle.std.specs.Prelude.{ℕ, List, None, Option, Result}
use Rattle.std.specs.Option.{option_or}
use Rattle.octets.specs.Areas.{written_unless}
use Rattle.element.specs.Kinds.{Coding, fault_of, out_of_range}
use Rattle.refusal.specs.declared.Refusal.{Refusal}
use Rattle.frame.specs.Formats.{frame_bytes, mapped, not_below_cycle}
use Rattle.frame.specs.declared.Format.{Format}
use Rattle.frame.specs.declared.Frame.{Frame}
use Rattle.frame.specs.declared.Frame.TheVariants.{Bare, Laden}

module _ {K : Type 0} (kind : Coding K) where
  -- the refusal of a frame whose element has a field out of range
  abbrev pub element_refusal : Frame K → Option Refusal
  element_refusal (Bare ack) = None
  element_refusal (Laden ack number e) = out_of_range (fault_of kind e)

  -- why a frame is not written, if it is not
  abbrev pub refusal_of : Format → Frame K → Option Refusal
  refusal_of format f = option_or (not_below_cycle format f) (element_refusal f)

  -- the bytes of a frame with an element of the kind
  abbrev pub bytes_of : Format → Frame K → List ℕ
  bytes_of format f = frame_bytes format.sender (mapped kind.written f)

  -- what writing answers, and the area after it
  abbrev pub write_into : Format → Frame K → List ℕ → Result ℕ Refusal × List ℕ
  write_into format f area = written_unless (refusal_of format f) (bytes_of format f) area
