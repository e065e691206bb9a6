-- How writing and reading belong together: each undoes the other, so that just the bytes that are written are accepted.
use Rattle.std.specs.Prelude.{◌≡◌, ℕ, ◌<◌, ◌≤◌, false, List, length, take, is_ok, None, Ok, Err, Result, ◌≢◌, slice_index, slice_set}
use Rattle.element.specs.Kinds.{Coding}
use Rattle.refusal.specs.declared.Refusal.{Refusal}
use Rattle.frame.specs.Formats.{OfWidth, frame_bytes, not_below_cycle}
use Rattle.frame.specs.Reads.{hear_from, read_from}
use Rattle.frame.specs.Writes.{bytes_of, refusal_of}
use Rattle.frame.specs.declared.Format.{Format}
use Rattle.frame.specs.declared.Frame.{Frame}

-- bytes that are read as a frame are the bytes of that frame, which is one that may be written
abbrev pub OnlyWritten : Format → ℕ → List ℕ → Result (Frame (List ℕ)) Refusal → Type 0
OnlyWritten format width bs (Ok f) = (not_below_cycle format f ≡ None) × OfWidth width f × (frame_bytes format.sender f ≡ bs)
OnlyWritten format width bs (Err r) = Unit {0}

-- with any one byte changed to another, the bytes are not read as a frame
pub record OneByteSafe (format : Format) (width : ℕ) (bs : List ℕ) : Type 0 where
  pub refused : (i byte : ℕ) → i < length bs → byte < 256 → (byte ≢ slice_index bs i) → is_ok (read_from format width (slice_set bs i byte)) ≡ false

-- a frame that was written has 14 to 32 bytes
abbrev pub Sized : Result ℕ Refusal → Type 0
Sized (Ok n) = (14 ≤ n) × (n ≤ 32)
Sized (Err r) = Unit {0}

module _ {K : Type 0} (kind : Coding K) (format : Format) where
  -- bytes that are heard as a frame are what writing that frame gives
  abbrev pub OnlyHeard : List ℕ → Result (Frame K) Refusal → Type 0
  OnlyHeard bs (Ok f) = (refusal_of kind format f ≡ None) × (bytes_of kind format f ≡ bs)
  OnlyHeard bs (Err r) = Unit {0}

  -- what was written of a frame into an area is heard as that frame
  abbrev pub HeardBack : Frame K → List ℕ → Result ℕ Refusal → Type 0
  HeardBack f area (Ok n) = hear_from kind format (take n area) ≡ Ok f
  HeardBack f area (Err r) = Unit {0}
