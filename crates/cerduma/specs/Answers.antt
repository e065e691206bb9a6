-- What a call from outside answers, and what it leaves in the memory that it was lent.
use Rattle.std.specs.Prelude.{ℕ, cond, List, length, Some, None, Ok, Err, Option, Result, nat_lt}
use Rattle.element.specs.Kinds.{Coding}
use Rattle.octets.specs.Areas.{front}
use Rattle.refusal.specs.Refusals.{number_of, place_of}
use Rattle.refusal.specs.declared.Refusal.{Refusal}
use Rattle.frame.specs.Reads.{hear_from}
use Rattle.frame.specs.Writes.{write_into}
use Rattle.frame.specs.declared.Format.{Format}
use Rattle.frame.specs.declared.Frame.{Frame}
use Rattle.frame.specs.declared.Side.{Side}
use Rattle.cerduma.specs.declared.Answer.{Answer}

-- a format: the side that sends, the cycle of acknowledgements and that of numbers
abbrev pub format_of : Side → ℕ → ℕ → Format
format_of sender ack number = record { sender = sender; cycles = record { ack = ack; number = number } }

-- a place as a number: 0 where there is none
abbrev pub place_or_0 : Option ℕ → ℕ
place_or_0 None = 0
place_or_0 (Some place) = place

-- the answer of a call that refuses: by which number, and at which place
abbrev pub refused_by : Refusal → Answer
refused_by r = record { refusal = number_of r; place = place_or_0 (place_of r); length = 0 }

-- the answer of a call that has read or written a frame of so many bytes
abbrev pub done : ℕ → Answer
done n = record { refusal = 0; place = 0; length = n }

-- the answer to how many bytes were written, or to why none were
abbrev pub answer_of : Result ℕ Refusal → Answer
answer_of (Ok n) = done n
answer_of (Err r) = refused_by r

-- an area after some bytes were written into its front, if it has room for them; one that has none stays as it was
abbrev pub filled : List ℕ → List ℕ → List ℕ
filled bs area = cond (nat_lt (length area) (length bs)) area (front bs area)

-- an answer and what an area holds, as writing leaves them if the area has room for the frame; an area that has none stays as it was
abbrev pub if_room : Result ℕ Refusal × List ℕ → List ℕ → Answer × List ℕ
if_room w area = (answer_of w.0, cond (nat_lt (length area) (answer_of w.0).length) area w.1)

-- what is heard in so many bytes, and the frame of plain fields that tells it; after a refusal that frame stays as it was
abbrev pub heard_over : {K F : Type 0} → (Frame K → F) → ℕ → Result (Frame K) Refusal → F → Answer × F
heard_over plain n (Ok f) old = (done n, plain f)
heard_over plain n (Err r) old = (refused_by r, old)

module _ {K : Type 0} (kind : Coding K) (format : Format) where
  -- what hearing bytes as a frame answers, and what the frame of plain fields then holds
  abbrev pub read : {F : Type 0} → (Frame K → F) → List ℕ → F → Answer × F
  read plain bs old = heard_over plain (length bs) (hear_from kind format bs) old

  -- what writing a frame into the front of an area answers, and what the area then holds
  abbrev pub written : Frame K → List ℕ → Answer × List ℕ
  written f area = if_room (write_into kind format f area) area
