-- An end of a link: what it keeps and what it is set to, and the link that two ends and two airs make.
use Rattle.std.specs.Prelude.{ℕ, length, Option, option_map, slice_get}
use Rattle.air.specs.Steps.{Bytes}
use Rattle.air.specs.Waiting.{AirState}
use Rattle.element.specs.Kinds.{Coding}
use Rattle.frame.specs.Formats.{other_side}
use Rattle.frame.specs.declared.Format.{Format}
use Rattle.frame.specs.declared.Frame.{Frame}
use Rattle.frame.specs.declared.Frame.TheVariants.{Bare, Laden}
use Rattle.frame.specs.declared.Side.{Side}
use Rattle.protocol.specs.declared.terms.Terms.{Terms}
use Rattle.protocol.specs.Drafts.{sent_by}
use Rattle.protocol.specs.Windows.{Sender, Receiver, cyclic, next_free}
use Rattle.protocol.specs.Machine.{Setting, State, new_stream}
use Rattle.window.specs.Seen.{sender_state, receiver_state}
use Rattle.wire.specs.Wires.{in_bytes, is_element}
use Rattle.link.specs.declared.end.End.{End}

-- what an end keeps: the sender of the stream that it sends, and the receiver of the one that it hears
pub record EndState (E F : Type 0) : Type 0 where
  pub sender : Sender E
  pub receiver : Receiver F

-- what an end is set to: its side, and the window and the cycle of the stream that it sends and of the one that it hears
pub record EndSettings : Type 0 where
  pub side : Side
  pub window : ℕ
  pub cycle : ℕ
  pub heard_window : ℕ
  pub heard_cycle : ℕ

-- the settings of the end that it faces
abbrev pub facing : EndSettings → EndSettings
facing s = record {
  side = other_side s.side;
  window = s.heard_window;
  cycle = s.heard_cycle;
  heard_window = s.window;
  heard_cycle = s.cycle;
}

-- the settings of a side's end, as both streams are drafted
abbrev pub drafted : Side → (hut_bound mast_bound : Terms) → EndSettings
drafted side t u =
    let sent = sent_by side t u in
    let heard = sent_by (other_side side) t u in
    record { side = side; window = sent.window; cycle = sent.cycle; heard_window = heard.window; heard_cycle = heard.cycle }

-- what the frames that it sends are held against
abbrev pub format_by : EndSettings → Format
format_by s = record { sender = s.side; cycles = record { ack = s.heard_cycle; number = s.cycle } }

-- the machine's settings for the stream that an end sends, in bytes, over an air
abbrev pub sending : {E : Type 0} → Coding E → EndSettings → AirState Bytes → Setting E Bytes
sending kind s air = record {
  valid = is_element kind;
  codec = in_bytes kind s.side (format_by s).cycles;
  window = s.window;
  numbers = cyclic s.cycle;
  capacity = air.capacity;
  bound = air.bound;
}

module _ {E F : Type 0} where
  -- what an end of the program keeps
  abbrev pub end_state : End E F → EndState E F
  end_state e = record { sender = sender_state e.sender; receiver = receiver_state e.receiver }

  -- and what it is set to
  abbrev pub settings_of : End E F → EndSettings
  settings_of e = record {
    side = e.side;
    window = e.sender.window;
    cycle = e.sender.cycle.length;
    heard_window = length (receiver_state e.receiver).slots;
    heard_cycle = e.receiver.cycle.length;
  }

  -- an end as it is made: number 0 for both streams, nothing held and nothing placed
  abbrev pub new_end : EndSettings → EndState E F
  new_end s = record { sender = (new_stream s.window).sender; receiver = (new_stream s.heard_window).receiver }

  -- the link of two ends, as the first one sees it: the air that carries what it sends, and the one that carries what it hears
  abbrev pub link_of : EndState E F → EndState F E → AirState Bytes → AirState Bytes → State E F Bytes Bytes
  link_of near far air back_air = record {
    out = record { sender = near.sender; receiver = far.receiver };
    back = record { sender = far.sender; receiver = near.receiver };
    out_air = air.waiting;
    back_air = back_air.waiting;
  }

module _ {E F : Type 0} where
  -- the frame in which an end that is set so sends what it holds at place k: its number, and the number of the first free slot as
  -- acknowledgement
  abbrev pub laden_frame : EndSettings → ℕ → EndState E F → Option (Frame E)
  laden_frame s k e =
      let ack = next_free (cyclic s.heard_cycle) e.receiver in
      option_map (λ x. Laden ack ((cyclic s.cycle).after e.sender.low k) x) (slice_get e.sender.held k)

  -- and that with its acknowledgement alone
  abbrev pub bare_frame : EndSettings → EndState E F → Frame E
  bare_frame s e = Bare (next_free (cyclic s.heard_cycle) e.receiver)
