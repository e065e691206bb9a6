-- Histories: any sequence of calls on an air that was made empty, and what its user can rely on after them.
--
-- Two frames may have the same bytes. To tell them apart, the frames that were put are counted from 0 in the sequence of their puts, and a frame is
-- known here by that serial number. No air keeps one.
use Rattle.std.specs.Prelude.{◌≡◌, ℕ, ◌+◌, ◌<◌, ◌≤◌, cond, List, [], ◌∷◌, ◌++◌, length, take, Some, Ok, Err, Result, ◌==◌, nat_lt, slice_index_or}
use Rattle.std.specs.List.{AllByRecursion, slice_get}
use Rattle.refusal.specs.declared.Refusal.{Refusal}
use Rattle.air.specs.Waiting.{Waiting, AirState, empty_air, without}
use Rattle.air.specs.Steps.{Bytes, put_step, lose_step, take_step, repeat_step}

-- a call: of a frame to put, of a place, or of a place and the area that is lent for the answer
pub data Call : Type 0 where
  puts : Bytes → Call
  loses : ℕ → Call
  takes : ℕ → Bytes → Call
  repeats : ℕ → Bytes → Call

-- what befell a frame, by its serial number: it was lost; it was answered with these bytes, and is gone or stays
pub data Event : Type 0 where
  was_lost : ℕ → Event
  was_taken : ℕ → Bytes → Event
  was_repeated : ℕ → Bytes → Event

-- what there is to know after a history: the air, the serial numbers of the waiting frames by their places, all frames that were put, in
-- sequence, and what befell frames, newest first
pub record Past : Type 0 where
  pub air : AirState Bytes
  pub serials : List ℕ
  pub put_frames : List Bytes
  pub events : List Event

-- the serial number of frame k; at a place where no frame waits, the one that the next put will have
abbrev pub serial_at : ℕ → Past → ℕ
serial_at k p = slice_index_or p.serials k (length p.put_frames)

-- the same past with another air
abbrev pub with_air : AirState Bytes → Past → Past
with_air a p = record { air = a; serials = p.serials; put_frames = p.put_frames; events = p.events }

-- the past after a call, by what the call returns and the air after it. A put that is not refused adds to the frames that were put
abbrev pub after_put : Bytes → Result (Unit {0}) Refusal × AirState Bytes → Past → Past
after_put bs (Ok done, a) p = record { air = a; serials = p.serials ++ (length p.put_frames ∷ []); put_frames = p.put_frames ++ (bs ∷ []); events = p.events }
after_put bs (Err refusal, a) p = with_air a p

-- a loss befalls frame k
abbrev pub after_lose : ℕ → Result (Unit {0}) Refusal × AirState Bytes → Past → Past
after_lose k (Ok done, a) p = record { air = a; serials = without k p.serials; put_frames = p.put_frames; events = was_lost (serial_at k p) ∷ p.events }
after_lose k (Err refusal, a) p = with_air a p

-- an answer befalls frame k, of the bytes that the caller finds in the front of the area
abbrev pub after_take : ℕ → Result ℕ Refusal × AirState Bytes × Bytes → Past → Past
after_take k (Ok n, a, area) p = record { air = a; serials = without k p.serials; put_frames = p.put_frames; events = was_taken (serial_at k p) (take n area) ∷ p.events }
after_take k (Err refusal, a, area) p = with_air a p

-- the same, but the frame waits still
abbrev pub after_repeat : ℕ → Result ℕ Refusal × AirState Bytes × Bytes → Past → Past
after_repeat k (Ok n, a, area) p = record { air = a; serials = p.serials; put_frames = p.put_frames; events = was_repeated (serial_at k p) (take n area) ∷ p.events }
after_repeat k (Err refusal, a, area) p = with_air a p

-- the past after any call, which does to the air what the contract of that call says
abbrev pub after : Call → Past → Past
after (puts bs) p = after_put bs (put_step bs p.air) p
after (loses k) p = after_lose k (lose_step k p.air) p
after (takes k area) p = after_take k (take_step k p.air area) p
after (repeats k area) p = after_repeat k (repeat_step k p.air area) p

-- the past after a history, whose newest call stands first, on an air that was made empty
abbrev pub past : ℕ → ℕ → List Call → Past
past capacity bound [] = record { air = empty_air capacity bound; serials = []; put_frames = []; events = [] }
past capacity bound (c ∷ h) = after c (past capacity bound h)

-- how often a serial number stands in a list
abbrev pub occurrences : ℕ → List ℕ → ℕ
occurrences s [] = 0
occurrences s (t ∷ ts) = cond (s == t) 1 0 + occurrences s ts

-- 1 where a frame departs by an event: is lost, or taken
abbrev pub departs : ℕ → Event → ℕ
departs s (was_lost t) = cond (s == t) 1 0
departs s (was_taken t bs) = cond (s == t) 1 0
departs s (was_repeated t bs) = 0

-- how often a frame departed
abbrev pub departures : ℕ → List Event → ℕ
departures s [] = 0
departures s (e ∷ es) = departs s e + departures s es

-- 1 where a younger frame overtakes this one by an event, that is, is answered
abbrev pub overtakes : ℕ → Event → ℕ
overtakes s (was_lost t) = 0
overtakes s (was_taken t bs) = cond (nat_lt s t) 1 0
overtakes s (was_repeated t bs) = cond (nat_lt s t) 1 0

-- how often a frame was overtaken: how often a younger one was answered before it departed
abbrev pub overtakings : ℕ → List Event → ℕ
overtakings s [] = 0
overtakings s (e ∷ es) = cond (departures s es == 0) (overtakes s e) 0 + overtakings s es

-- an answer is, byte for byte, the frame that was put under that serial number
abbrev pub Genuine : List Bytes → Event → Type 0
Genuine put_frames (was_lost s) = Unit {0}
Genuine put_frames (was_taken s bs) = slice_get put_frames s ≡ Some bs
Genuine put_frames (was_repeated s bs) = slice_get put_frames s ≡ Some bs

-- the frame that an event befalls
abbrev pub befallen : Event → ℕ
befallen (was_lost s) = s
befallen (was_taken s bs) = s
befallen (was_repeated s bs) = s

-- what befalls a frame befalls it before it departs
abbrev pub Present : List Event → Type 0
Present [] = Unit {0}
Present (e ∷ es) = (departures (befallen e) es ≡ 0) × Present es

-- what the user of an air with this capacity and this bound relies on
pub record Lawful (capacity bound : ℕ) (p : Past) : Type 0 where
  -- the capacity and the bound stay as they are
  pub fixed : (p.air.capacity ≡ capacity) × (p.air.bound ≡ bound)
  -- no frame is overtaken more often than the bound
  pub bounded : (s : ℕ) → overtakings s p.events ≤ bound
  -- every answered frame is, byte for byte, one that was put
  pub genuine : AllByRecursion (Genuine p.put_frames) p.events
  -- a frame that has departed is not answered or lost again
  pub present : Present p.events
  -- a frame that was put waits at one place, or has departed once, lost or taken; no other frame waits or departs
  pub accounted : (s : ℕ) → occurrences s p.serials + departures s p.events ≡ cond (nat_lt s (length p.put_frames)) 1 0
  -- every waiting frame has a serial number
  pub matched : length p.serials ≡ length p.air.waiting
  -- and is, byte for byte, the frame that was put under it
  pub unchanged : (k : ℕ) (w : Waiting Bytes) → slice_get p.air.waiting k ≡ Some w → slice_get p.put_frames (serial_at k p) ≡ Some w.frame
  -- its count tells how often it was overtaken
  pub counted : (k : ℕ) (w : Waiting Bytes) → slice_get p.air.waiting k ≡ Some w → w.count ≡ overtakings (serial_at k p) p.events
  -- frames wait in the sequence of their puts
  pub in_sequence : (j k : ℕ) → j < k → k < length p.serials → serial_at j p < serial_at k p
  -- counts never rise from an older frame to a younger one
  pub falling : (j k : ℕ) (v w : Waiting Bytes) → j ≤ k → slice_get p.air.waiting j ≡ Some v → slice_get p.air.waiting k ≡ Some w → w.count ≤ v.count

-- it holds after every history, whatever the capacity and the bound, and so of every air, since each call of an air is the step that
-- `after` takes
abbrev pub AlwaysLawful : Type 0
AlwaysLawful = (capacity bound : ℕ) (h : List Call) → Lawful capacity bound (past capacity bound h)

-- if this air is what some history of calls makes of an empty one, no waiting frame has been overtaken more often than this
abbrev pub AtMost : ℕ → AirState Bytes → Type 0
AtMost most a = (h : List Call) → (past a.capacity a.bound h).air ≡ a → AllByRecursion (λ w. w.count ≤ most) a.waiting
