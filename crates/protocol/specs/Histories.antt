-- The calls of a link in sequence, what each stream has accepted and passed after them, and what each call answers. The mast is the
-- end that looks: it sends E, hut-bound, and receives F, mast-bound.
use Rattle.std.specs.Prelude.{ℕ, zero, suc, ◌*◌, ◌&&◌, List, [], ◌∷◌, ◌++◌, length, drop, Some, None, Option, nat_le}
use Rattle.std.specs.Fn.{iterate}
use Rattle.std.specs.Option.{option_map_or, option_or}
use Rattle.refusal.specs.Refusals.{place_of}
use Rattle.refusal.specs.declared.Refusal.{Refusal}
use Rattle.refusal.specs.declared.Refusal.TheVariants.{ListTooShort, NoRoomInAir}
use Rattle.protocol.specs.Drafts.{refused_unless}
use Rattle.protocol.specs.Machine.{Setting, State, Step, Act, Reply, turned, new_stream, act}
use Rattle.protocol.specs.Machine.Act.{accept, send, bare, deliver, pass}
use Rattle.protocol.specs.Machine.Reply.{done, passed_on, refused}

-- all elements that a stream has accepted, and all that it has passed, each in the sequence of the calls
pub record Log (E : Type 0) : Type 0 where
  pub accepted : List E
  pub passed : List E

-- a link after some calls, as one end sees it: its state, the log of the stream that it sends and of the one that comes back, and how
-- often a call was refused for the bytes of a frame, which could not be read or written: by a refusal that has a place
pub record Past (E F V W : Type 0) : Type 0 where
  pub state : State E F V W
  pub out : Log E
  pub back : Log F
  pub bytes_refused : ℕ

-- the same as the other end sees it
abbrev pub turned_past : {E F V W : Type 0} → Past E F V W → Past F E W V
turned_past p = record { state = turned p.state; out = p.back; back = p.out; bytes_refused = p.bytes_refused }

-- what a stream has accepted, after a reply to an act of its sender
abbrev pub accepted_by : {E F : Type 0} → Reply F → Act E → List E → List E
accepted_by done (accept e) xs = xs ++ (e ∷ [])
accepted_by r a xs = xs

-- what it has passed, after a reply to its receiver
abbrev pub passed_by : {F : Type 0} → Reply F → List F → List F
passed_by (passed_on (Some f)) xs = xs ++ (f ∷ [])
passed_by r xs = xs

-- one more, for a refusal that has a place
abbrev pub counted : Option ℕ → ℕ → ℕ
counted None k = k
counted (Some place) k = suc k

-- how often a call was refused for the bytes of a frame, after a reply
abbrev pub bytes_refused_by : {F : Type 0} → Reply F → ℕ → ℕ
bytes_refused_by (refused r) k = counted (place_of r) k
bytes_refused_by r k = k

module _ {E F V W : Type 0} where
  -- the past after an act that took this step
  abbrev pub after_step : Act E → Step E F V W → Past E F V W → Past E F V W
  after_step a t p = record {
    state = t.state;
    out = record { accepted = accepted_by t.reply a p.out.accepted; passed = p.out.passed };
    back = record { accepted = p.back.accepted; passed = passed_by t.reply p.back.passed };
    bytes_refused = bytes_refused_by t.reply p.bytes_refused;
  }

  -- one act of the end that looks
  abbrev pub does : Setting E V → Setting F W → Act E → Past E F V W → Past E F V W
  does c d a p = after_step a (act c d a p.state) p

-- what f does to a link, done from the other end
abbrev pub from_other_end : {E F V W : Type 0} → (Setting F W → Setting E V → Past F E W V → Past F E W V) →
    Setting E V → Setting F W → Past E F V W → Past E F V W
from_other_end f c d p = turned_past (f d c (turned_past p))

-- f 0, then f 1, up to f (k - 1)
abbrev pub up_to : {A : Type 0} → ℕ → (ℕ → A → A) → A → A
up_to zero f x = x
up_to (suc k) f x = f k (up_to k f x)

module _ {E F V W : Type 0} where
  -- one act of the other end
  abbrev pub other_does : Setting E V → Setting F W → Act F → Past E F V W → Past E F V W
  other_does c d a p = turned_past (does d c a (turned_past p))

  -- the oldest frame of the stream that goes out is delivered until none waits
  abbrev pub emptied : Setting E V → Setting F W → Past E F V W → Past E F V W
  emptied c d p = iterate (does c d (deliver 0)) (length p.state.out_air) p

  -- the other end passes until it answers none, at most once for each slot
  abbrev pub all_passed : Setting E V → Setting F W → Past E F V W → Past E F V W
  all_passed c d p = iterate (other_does c d pass) c.window p

  -- the k-th held element is sent and delivered
  abbrev pub sent_over : Setting E V → Setting F W → ℕ → Past E F V W → Past E F V W
  sent_over c d k p = does c d (deliver 0) (does c d (send k) p)

  -- so is each held element in turn
  abbrev pub all_sent : Setting E V → Setting F W → Past E F V W → Past E F V W
  all_sent c d p = up_to (length p.state.out.sender.held) (sent_over c d) p

  -- a bare frame is sent and delivered
  abbrev pub reported : Setting E V → Setting F W → Past E F V W → Past E F V W
  reported c d p = does c d (deliver 0) (does c d bare p)

module _ {E F V W : Type 0} where
  -- the airs are emptied, and both ends pass
  abbrev pub drained : Setting E V → Setting F W → Past E F V W → Past E F V W
  drained c d p = all_passed c d (from_other_end all_passed c d (from_other_end emptied c d (emptied c d p)))

  -- what is held here is sent and passed
  abbrev pub flushed : Setting E V → Setting F W → Past E F V W → Past E F V W
  flushed c d p = all_passed c d (all_sent c d p)

-- settle: drain, flush each way, and report each way
abbrev pub settled : {E F V W : Type 0} → Setting E V → Setting F W → Past E F V W → Past E F V W
settled c d p = from_other_end reported c d (reported c d (from_other_end flushed c d (flushed c d (drained c d p))))

-- a call of a link: an act of the mast, an act of the hut, or settle with lists of so many places for the mast and for the hut
pub data Call (E F : Type 0) : Type 0 where
  mast : Act E → Call E F
  hut : Act F → Call E F
  settle : ℕ → ℕ → Call E F

-- what a call answers: what the act answers; of settle, what it writes into the mast's list and into the hut's, or why it refuses
pub data Answer (E F : Type 0) : Type 0 where
  mast_answer : Reply F → Answer E F
  hut_answer : Reply E → Answer E F
  settled_lists : List F → List E → Answer E F
  settle_refused : Refusal → Answer E F

module _ {E F V W : Type 0} where
  -- why settle is refused: a list has fewer places than two windows of the stream that ends there, or an air has no room
  abbrev pub settle_refusal : Setting E V → Setting F W → ℕ → ℕ → Option Refusal
  settle_refusal c d m h =
      option_or (refused_unless (nat_le (2 * d.window) m && nat_le (2 * c.window) h) ListTooShort)
      (refused_unless (nat_le 1 c.capacity && nat_le 1 d.capacity) NoRoomInAir)

  -- a call
  abbrev pub calls : Setting E V → Setting F W → Call E F → Past E F V W → Past E F V W
  calls c d (mast a) p = does c d a p
  calls c d (hut a) p = other_does c d a p
  calls c d (settle m h) p = option_map_or (λ refusal. p) (settle_refusal c d m h) (settled c d p)

  -- its answer
  abbrev pub answers : Setting E V → Setting F W → Call E F → Past E F V W → Answer E F
  answers c d (mast a) p = mast_answer (act c d a p.state).reply
  answers c d (hut a) p = hut_answer (act d c a (turned p.state)).reply
  answers c d (settle m h) p =
      let q = settled c d p in
      option_map_or settle_refused (settle_refusal c d m h)
      (settled_lists (drop (length p.back.passed) q.back.passed) (drop (length p.out.passed) q.out.passed))

  -- a link as it opens
  abbrev pub start : Setting E V → Setting F W → Past E F V W
  start c d = record {
    state = record { out = new_stream c.window; back = new_stream d.window; out_air = []; back_air = [] };
    out = record { accepted = []; passed = [] };
    back = record { accepted = []; passed = [] };
    bytes_refused = 0;
  }

  -- the past after a history, whose newest call stands first
  abbrev pub after : Setting E V → Setting F W → List (Call E F) → Past E F V W
  after c d [] = start c d
  after c d (x ∷ h) = calls c d x (after c d h)
