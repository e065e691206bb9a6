-- The worked cases I to L, each as an equation between the definitions and what they are worked out to.
use Rattle.std.specs.Prelude.{◌≡◌, ℕ, List, [], ◌∷◌, pos, Some, Ok, Err}
use Rattle.octets.specs.Areas.{front}
use Rattle.octets.specs.Checks.{check, folded, word_sum}
use Rattle.element.specs.Kinds.{made_from}
use Rattle.element.specs.Orders.{order_coding}
use Rattle.element.specs.Readings.{reading_coding}
use Rattle.element.specs.declared.order.Order.TheVariants.{Note}
use Rattle.element.specs.declared.reading.Reading.{Reading}
use Rattle.refusal.specs.Refusals.{number_of, place_of}
use Rattle.refusal.specs.declared.Refusal.TheVariants.{BoundReached, FieldOutOfRange, NoElement}
use Rattle.air.specs.Waiting.{AirState, Waiting, empty_air}
use Rattle.air.specs.Steps.{Bytes, put_step, take_step}
use Rattle.frame.specs.Reads.{hear_from}
use Rattle.frame.specs.Writes.{bytes_of}
use Rattle.frame.specs.declared.Format.{Format}
use Rattle.frame.specs.declared.Frame.TheVariants.{Bare, Laden}
use Rattle.frame.specs.declared.Side.{Side}
use Rattle.frame.specs.declared.Side.TheVariants.{Mast, Hut}

-- frames of one side, with cycles of 8
abbrev pub from : Side → Format
from side = record { sender = side; cycles = record { ack = 8; number = 8 } }

-- a reading whose humidity is n tenths of a percent, and all else 0
abbrev pub humid : ℕ → Reading
humid n = record { time = 0; height = pos 0; temperature = pos 0; humidity = n; pressure = 0 }

-- the bytes of case I
abbrev pub bare_bytes : List ℕ
bare_bytes = 0x4D ∷ 0x48 ∷ 0x4C ∷ 0x00 ∷ 0x01 ∷ 0x01 ∷ 0x02 ∷ 0x00 ∷ 0x01 ∷ 0x00 ∷ 0x00 ∷ 0x00 ∷ 0x62 ∷ 0xB6 ∷ []

-- the bytes of case J
abbrev pub note_bytes : List ℕ
note_bytes = 0x4D ∷ 0x48 ∷ 0x4C ∷ 0x00 ∷ 0x01 ∷ 0x02 ∷ 0x02 ∷ 0x00 ∷ 0x01 ∷ 0x00 ∷ 0x00 ∷ 0x05 ∷ 0x03 ∷ 0x00 ∷ 0x00 ∷ 0x00 ∷ 0x07 ∷ 0x58 ∷ 0xB0 ∷ []

-- a waiting frame of one byte, with its count
abbrev pub waiting : ℕ → ℕ → Waiting Bytes
waiting byte count = record { frame = byte ∷ []; count = count }

-- an air with room for three frames and bound 1, in which these wait
abbrev pub holding : List (Waiting Bytes) → AirState Bytes
holding ws = record { waiting = ws; capacity = 3; bound = 1 }

-- the example of RFC 1071, whose sum is ddf2
abbrev pub rfc_bytes : List ℕ
rfc_bytes = 0x00 ∷ 0x01 ∷ 0xf2 ∷ 0x03 ∷ 0xf4 ∷ 0xf5 ∷ 0xf6 ∷ 0xf7 ∷ []

-- the worked cases I to L, and the example of RFC 1071
pub record Worked : Type 0 where
  -- I: the hut's bare frame with acknowledgement 1
  pub case_i_written : bytes_of order_coding (from Hut) (Bare 1) ≡ bare_bytes
  pub case_i_heard : hear_from order_coding (from Hut) bare_bytes ≡ Ok (Bare 1)
  -- J: the hut's frame with note 7, acknowledgement 1 and number 0
  pub case_j_written : bytes_of order_coding (from Hut) (Laden 1 0 (Note 7)) ≡ note_bytes
  pub case_j_heard : hear_from order_coding (from Hut) note_bytes ≡ Ok (Laden 1 0 (Note 7))
  -- K: humidity 1,000 is made; 1,001 is refused by 17, and in a frame by 15 at place 22
  pub case_k_made : made_from reading_coding (humid 1000) ≡ Ok (humid 1000)
  pub case_k_refused : made_from reading_coding (humid 1001) ≡ Err FieldOutOfRange
  pub case_k_number : number_of FieldOutOfRange ≡ 17
  pub case_k_heard : hear_from reading_coding (from Mast) (bytes_of reading_coding (from Mast) (Laden 1 0 (humid 1001))) ≡ Err (NoElement 22)
  pub case_k_place : (number_of (NoElement 22) ≡ 15) × (place_of (NoElement 22) ≡ Some 22)
  -- L: of three frames that are put into an empty air with bound 1, frame 1 is taken; frame 1 again is refused by 8; frame 0 is taken
  pub case_l_put : (put_step (99 ∷ []) (put_step (98 ∷ []) (put_step (97 ∷ []) (empty_air 3 1)).1).1).1 ≡ holding (waiting 97 0 ∷ waiting 98 0 ∷ waiting 99 0 ∷ [])
  pub case_l_taken : (area : Bytes) → take_step 1 (holding (waiting 97 0 ∷ waiting 98 0 ∷ waiting 99 0 ∷ [])) area ≡ (Ok 1, holding (waiting 97 1 ∷ waiting 99 0 ∷ []), front (98 ∷ []) area)
  pub case_l_refused : (area : Bytes) → take_step 1 (holding (waiting 97 1 ∷ waiting 99 0 ∷ [])) area ≡ (Err BoundReached, holding (waiting 97 1 ∷ waiting 99 0 ∷ []), area)
  pub case_l_number : number_of BoundReached ≡ 8
  pub case_l_oldest : (area : Bytes) → take_step 0 (holding (waiting 97 1 ∷ waiting 99 0 ∷ [])) area ≡ (Ok 1, holding (waiting 99 0 ∷ []), front (97 ∷ []) area)
  -- the sum and the check of RFC 1071's example
  pub rfc_sum : folded (word_sum rfc_bytes) ≡ 0xddf2
  pub rfc_check : check rfc_bytes ≡ 0x220d
