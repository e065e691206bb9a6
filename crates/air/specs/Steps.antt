-- What each call on an air of bytes returns, and what the air and the area then hold. A refusal leaves both as they were.
use Rattle.std.specs.Prelude.{ℕ, ◌<◌, ◌≤◌, cond, ◌||◌, List, [], length, Some, None, Ok, Err, Option, Result, ◌==◌, nat_le, nat_lt, slice_index}
use Rattle.std.specs.Option.{option_or}
use Rattle.std.specs.Result.{result_unwrap_or}
use Rattle.std.specs.List.{AllByRecursion, slice_get}
use Rattle.octets.specs.Areas.{front}
use Rattle.refusal.specs.Refusals.{unless}
use Rattle.refusal.specs.declared.Refusal.{Refusal}
use Rattle.refusal.specs.declared.Refusal.TheVariants.{AirFull, NoFrame, BoundReached, SizeOutOfLimits}
use Rattle.air.specs.Waiting.{Waiting, AirState, joined, lost, taken, repeated, barred}

-- a frame as an air carries it
abbrev pub Bytes : Type 0
Bytes = List ℕ

-- a waiting frame has 1 to 32 bytes, each below 256, and has been overtaken at most as often as the bound allows
abbrev pub Fine : ℕ → Waiting Bytes → Type 0
Fine bound w = (1 ≤ length w.frame) × (length w.frame ≤ 32) × ((i : ℕ) → slice_index w.frame i < 256) × (w.count ≤ bound)

-- what holds of every air: it is within its capacity, its bound is a byte, and each waiting frame is fine
abbrev pub Sound : AirState Bytes → Type 0
Sound a = (length a.waiting ≤ a.capacity) × (a.bound ≤ 255) × AllByRecursion (Fine a.bound) a.waiting

-- why some bytes are not put as a frame (9): no bytes, or over 32
abbrev pub size_refusal : Bytes → Option Refusal
size_refusal bs = cond (length bs == 0 || nat_lt 32 (length bs)) (Some SizeOutOfLimits) None

module _ {W : Type 0} where
  -- why an air takes in no frame (6): as many wait as its capacity
  abbrev pub room_refusal : AirState W → Option Refusal
  room_refusal a = cond (nat_le a.capacity (length a.waiting)) (Some AirFull) None

  -- why there is no frame k (7): fewer wait
  abbrev pub place_refusal : ℕ → AirState W → Option Refusal
  place_refusal k a = cond (nat_le (length a.waiting) k) (Some NoFrame) None

  -- why frame k is not answered: there is none (7), or an older one has been overtaken as often as the bound allows (8)
  abbrev pub answer_refusal : ℕ → AirState W → Option Refusal
  answer_refusal k a = option_or (place_refusal k a) (cond (barred a.bound k a.waiting) (Some BoundReached) None)

-- why a frame is not put: its size, and then the room
abbrev pub put_refusal : Bytes → AirState Bytes → Option Refusal
put_refusal bs a = option_or (size_refusal bs) (room_refusal a)

-- what a call returns and the air after it, unless it is refused
abbrev pub step_unless : Option Refusal → AirState Bytes → AirState Bytes → Result (Unit {0}) Refusal × AirState Bytes
step_unless None after before = (Ok tt, after)
step_unless (Some refusal) after before = (Err refusal, before)

-- put: the frame waits behind all others
abbrev pub put_step : Bytes → AirState Bytes → Result (Unit {0}) Refusal × AirState Bytes
put_step bs a = step_unless (put_refusal bs a) (joined bs a) a

-- lose: frame k is gone
abbrev pub lose_step : ℕ → AirState Bytes → Result (Unit {0}) Refusal × AirState Bytes
lose_step k a = step_unless (place_refusal k a) (lost k a) a

-- the bytes of a waiting frame; none where there is none
abbrev pub bytes_of : Option (Waiting Bytes) → Bytes
bytes_of None = []
bytes_of (Some w) = w.frame

-- the bytes of frame k
abbrev pub frame_at : ℕ → AirState Bytes → Bytes
frame_at k a = bytes_of (slice_get a.waiting k)

-- the length of the frame that is answered, the air after it and the area with the frame in its front, unless the call is refused
abbrev pub answer_unless : Option Refusal → Bytes → AirState Bytes → AirState Bytes → Bytes → Result ℕ Refusal × AirState Bytes × Bytes
answer_unless None frame after before area = (Ok (length frame), after, front frame area)
answer_unless (Some refusal) frame after before area = (Err refusal, before, area)

-- take: frame k is answered and gone, and has overtaken those before it
abbrev pub take_step : ℕ → AirState Bytes → Bytes → Result ℕ Refusal × AirState Bytes × Bytes
take_step k a area = answer_unless (answer_refusal k a) (frame_at k a) (taken k a) a area

-- repeat: frame k is answered and stays, and has overtaken those before it
abbrev pub repeat_step : ℕ → AirState Bytes → Bytes → Result ℕ Refusal × AirState Bytes × Bytes
repeat_step k a area = answer_unless (answer_refusal k a) (frame_at k a) (repeated k a) a area

-- the count of a waiting frame; 0 where there is none
abbrev pub count_of : Option (Waiting Bytes) → ℕ
count_of None = 0
count_of (Some w) = w.count

-- the count of frame k, unless there is none
abbrev pub count_at : ℕ → AirState Bytes → Result ℕ Refusal
count_at k a = unless (count_of (slice_get a.waiting k)) (place_refusal k a)

-- the count of the oldest frame; 0 where none waits
abbrev pub oldest_count : AirState Bytes → ℕ
oldest_count a = result_unwrap_or (count_at 0 a) 0
