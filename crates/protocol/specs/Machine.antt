-- The machine that a link is: two streams and the airs between them, and what each call does and answers. It answers in every state,
-- also in those that no history leads to. One text for both ends, for every numbering, and for every way to write frames.
--
-- Seen from one end: E is the kind that it sends and F the kind that it receives; a frame with an E is written as a V, and one with an F
-- as a W. The acknowledgements of one stream are carried in the frames of the other.
use Rattle.std.specs.Prelude.{ℕ, Bool, List, [], length, replicate, Some, None, Ok, Err, Option, Result, nat_lt, slice_get}
use Rattle.std.specs.Option.{option_or}
use Rattle.refusal.specs.declared.Refusal.{Refusal}
use Rattle.refusal.specs.declared.Refusal.TheVariants.{WindowFull, NotHeld, NoFrame, FieldOutOfRange}
use Rattle.air.specs.Waiting.{Waiting, AirState, joined, lost, taken, repeated}
use Rattle.air.specs.Steps.{room_refusal, place_refusal, answer_refusal}
use Rattle.frame.specs.declared.Frame.{Frame}
use Rattle.frame.specs.declared.Frame.TheVariants.{Bare, Laden}
use Rattle.protocol.specs.declared.Placement.{Placement}
use Rattle.protocol.specs.Drafts.{refused_unless}
use Rattle.protocol.specs.Windows.{Numbering, Sender, Receiver, released, holding, acknowledged, next_free, hearing, placement, ack_of, first_slot, moved_on}

-- how a frame with an E is written as a V, and read again; either may refuse
pub record Codec (E V : Type 0) : Type 0 where
  pub write : Frame E → Result V Refusal
  pub read : V → Result (Frame E) Refusal

-- frames that travel as they are
abbrev pub as_they_are : {E : Type 0} → Codec E (Frame E)
as_they_are = record { write = Ok; read = Ok }

-- the settings of one stream: which values are elements of its kind, how its frames are written, its window, its numbers, and how many
-- frames may wait in its air and how often each may be overtaken
pub record Setting (E V : Type 0) : Type 0 where
  pub valid : E → Bool
  pub codec : Codec E V
  pub window : ℕ
  pub numbers : Numbering
  pub capacity : ℕ
  pub bound : ℕ

-- a stream: its sender at one end and its receiver at the other
pub record Stream (E : Type 0) : Type 0 where
  pub sender : Sender E
  pub receiver : Receiver E

-- a link as one end sees it: the stream that it sends, the stream that comes back, and the frames that wait in the air of each
pub record State (E F V W : Type 0) : Type 0 where
  pub out : Stream E
  pub back : Stream F
  pub out_air : List (Waiting V)
  pub back_air : List (Waiting W)

-- the same link as the other end sees it
abbrev pub turned : {E F V W : Type 0} → State E F V W → State F E W V
turned s = record { out = s.back; back = s.out; out_air = s.back_air; back_air = s.out_air }

-- a stream as it opens: number 0 at both ends, nothing held and nothing placed
abbrev pub new_stream : {E : Type 0} → (window : ℕ) → Stream E
new_stream window = record {
  sender = record { low = 0; held = [] };
  receiver = record { base = 0; slots = replicate window None };
}

-- the air of a stream, in which these frames wait
abbrev pub air_of : {E V : Type 0} → Setting E V → List (Waiting V) → AirState V
air_of c ws = record { waiting = ws; capacity = c.capacity; bound = c.bound }

-- what an end can do: accept an element, send the k-th held one, send a bare frame; with the air that carries what it sends, lose frame
-- k, or have the other end hear it, by deliver or repeat; and pass on what it has received
pub data Act (E : Type 0) : Type 0 where
  accept : E → Act E
  send : ℕ → Act E
  bare : Act E
  lose : ℕ → Act E
  deliver : ℕ → Act E
  repeat : ℕ → Act E
  pass : Act E

-- what that answers: done; a frame was heard: how many elements it released, and what became of its own; an element, or none; a
-- refusal
pub data Reply (F : Type 0) : Type 0 where
  done : Reply F
  heard : ℕ → Placement → Reply F
  passed_on : Option F → Reply F
  refused : Refusal → Reply F

-- the state and the reply after an act
pub record Step (E F V W : Type 0) : Type 0 where
  pub state : State E F V W
  pub reply : Reply F

-- why an element is not accepted: as many are held as the window is wide, or it is no element of its kind
abbrev pub accept_refusal : {E V : Type 0} → Setting E V → E → Sender E → Option Refusal
accept_refusal c e s =
    option_or (refused_unless (nat_lt (length s.held) c.window) WindowFull) (refused_unless (c.valid e) FieldOutOfRange)

module _ {E F V W : Type 0} where
  -- a step to this state with this reply
  abbrev pub step : State E F V W → Reply F → Step E F V W
  step s r = record { state = s; reply = r }

  -- a step, unless there is a cause to refuse it: then nothing changes
  abbrev pub act_unless : Option Refusal → Step E F V W → State E F V W → Step E F V W
  act_unless None t s = t
  act_unless (Some refusal) t s = step s (refused refusal)

  -- the state with other frames in the air of the stream that goes out
  abbrev pub with_air : State E F V W → List (Waiting V) → State E F V W
  with_air s ws = record s { out_air = ws }

  -- what was written joins the air; if it could not be written, nothing changes
  abbrev pub join : Setting E V → Result V Refusal → State E F V W → Step E F V W
  join c (Ok v) s = step (with_air s (joined v (air_of c s.out_air)).waiting) done
  join c (Err refusal) s = step s (refused refusal)

  -- a frame is put into the air, if there is room
  abbrev pub put : Setting E V → Frame E → State E F V W → Step E F V W
  put c f s = act_unless (room_refusal (air_of c s.out_air)) (join c (c.codec.write f) s) s

  -- the k-th held element, if there is one, is sent
  abbrev pub send_held : Setting E V → Setting F W → ℕ → Option E → State E F V W → Step E F V W
  send_held c d k None s = step s (refused NotHeld)
  send_held c d k (Some e) s = put c (Laden (next_free d.numbers s.back.receiver) (c.numbers.after s.out.sender.low k) e) s

  -- the other end hears a frame as it was read, and these frames are left in the air
  abbrev pub hear : Setting E V → Setting F W → Result (Frame E) Refusal → List (Waiting V) → State E F V W → Step E F V W
  hear c d (Ok f) rest s =
      step
      (record {
        out = record s.out { receiver = hearing c.numbers c.window f s.out.receiver };
        back = record s.back { sender = acknowledged d.numbers (ack_of f) s.back.sender };
        out_air = rest;
        back_air = s.back_air;
      })
      (heard
      (released d.numbers s.back.sender.low (length s.back.sender.held) (ack_of f))
      (placement c.numbers c.window f s.out.receiver))
  hear c d (Err refusal) rest s = step (with_air s rest) (refused refusal)

  -- the same of a waiting frame, if there is one
  abbrev pub hear_waiting : Setting E V → Setting F W → Option (Waiting V) → List (Waiting V) → State E F V W → Step E F V W
  hear_waiting c d None rest s = step s (refused NoFrame)
  hear_waiting c d (Some w) rest s = hear c d (c.codec.read w.frame) rest s

  -- the other end hears frame k, unless the air refuses to answer it, and these frames are left in the air
  abbrev pub hear_at : Setting E V → Setting F W → ℕ → List (Waiting V) → State E F V W → Step E F V W
  hear_at c d k rest s = act_unless (answer_refusal k (air_of c s.out_air)) (hear_waiting c d (slice_get s.out_air k) rest s) s

  -- one act of the end that looks, which sends with the settings c and receives with d
  abbrev pub act : Setting E V → Setting F W → Act E → State E F V W → Step E F V W
  act c d (accept e) s =
      act_unless (accept_refusal c e s.out.sender) (step (record s { out = record s.out { sender = holding e s.out.sender } }) done) s
  act c d (send k) s = send_held c d k (slice_get s.out.sender.held k) s
  act c d bare s = put c (Bare (next_free d.numbers s.back.receiver)) s
  act c d (lose k) s =
      act_unless (place_refusal k (air_of c s.out_air)) (step (with_air s (lost k (air_of c s.out_air)).waiting) done) s
  act c d (deliver k) s = hear_at c d k (taken k (air_of c s.out_air)).waiting s
  act c d (repeat k) s = hear_at c d k (repeated k (air_of c s.out_air)).waiting s
  act c d pass s =
      let x = first_slot s.back.receiver.slots in
      step (record s { back = record s.back { receiver = moved_on d.numbers x s.back.receiver } }) (passed_on x)
