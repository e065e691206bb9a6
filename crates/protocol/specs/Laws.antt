-- Laws across whole runs of a link: it does the same on any cycles that are long enough, however its frames are written, and, after a
-- settle, whatever its airs did; what its records tell covers what it owes, which can be counted from its ends; and each of its streams
-- is a queue.
use Rattle.std.specs.Prelude.{◌≡◌, ℕ, ◌+◌, ◌*◌, ◌≤◌, min, ◌==◌, ◌&&◌, nat_lt, cond, List, [], ◌∷◌, ◌++◌, length, Some, None, Option}
use Rattle.air.specs.Waiting.{Waiting}
use Rattle.frame.specs.declared.Frame.{Frame}
use Rattle.protocol.specs.Windows.{Receiver, cyclic, endless}
use Rattle.protocol.specs.Drafts.{Drafted, longest_cycle}
use Rattle.protocol.specs.Machine.{Setting, Stream, as_they_are}
use Rattle.protocol.specs.Histories.{Log, Past, Call, Answer, answers, after, accepted_by, passed_by}
use Rattle.protocol.specs.Histories.Call.{mast, hut, settle}
use Rattle.protocol.specs.Histories.Answer.{mast_answer, hut_answer, settled_lists}
use Rattle.protocol.specs.Delivery.{owed}
use Rattle.protocol.specs.Promises.{Direction, Faithful, CanSettle, opened, past}

-- a direction of an ideal link: its numbers never start over, and its frames travel as they are
abbrev pub ideal : {E V : Type 0} → Direction E V → Setting E (Frame E)
ideal c = record {
  valid = c.valid;
  codec = as_they_are;
  window = c.terms.window;
  numbers = endless;
  capacity = c.capacity;
  bound = min c.terms.bound c.own_bound;
}

-- where the elements of a stream are: all that were accepted and passed, those held, and the slots
abbrev pub elements_of : {E : Type 0} → Log E → Stream E → Log E × List E × List (Option E)
elements_of log s = (log, s.sender.held, s.receiver.slots)

module _ {E F V W V₂ W₂ : Type 0} (c : Setting E V) (d : Setting F W) (c₂ : Setting E V₂) (d₂ : Setting F W₂) where
  -- after the same history two links have the same elements in the same places, and answer every next call alike
  pub record Alike (h : List (Call E F)) : Type 0 where
    pub out : let p = after c d h in let q = after c₂ d₂ h in elements_of p.out p.state.out ≡ elements_of q.out q.state.out
    pub back : let p = after c d h in let q = after c₂ d₂ h in elements_of p.back p.state.back ≡ elements_of q.back q.state.back
    pub answered : (x : Call E F) → answers c d x (after c d h) ≡ answers c₂ d₂ x (after c₂ d₂ h)

-- a drafted link does what the ideal link does
abbrev pub LikeIdeal : Type 0 → Type 0 → Type 0 → Type 0 → Type 0
LikeIdeal E F V W =
    (c : Direction E V) (d : Direction F W) → Faithful c → Faithful d → Drafted c.terms d.terms →
    (h : List (Call E F)) → Alike (opened c d) (opened d c) (ideal c) (ideal d) h

-- so nobody can tell a link's cycles, or how its frames are written, from its answers: two drafted links run alike if
-- their directions agree in kind, window, capacity and the bound that their airs are held to
abbrev pub SameOnAnyCycle : Type 0 → Type 0 → Type 0 → Type 0 → Type 0 → Type 0 → Type 0
SameOnAnyCycle E F V W V₂ W₂ =
    (c : Direction E V) (d : Direction F W) (c₂ : Direction E V₂) (d₂ : Direction F W₂) →
    Faithful c → Faithful d → Faithful c₂ → Faithful d₂ → Drafted c.terms d.terms → Drafted c₂.terms d₂.terms →
    ideal c ≡ ideal c₂ → ideal d ≡ ideal d₂ →
    (h : List (Call E F)) → Alike (opened c d) (opened d c) (opened c₂ d₂) (opened d₂ c₂) h

-- the same direction with its frames as they are, not written
abbrev pub unwritten : {E V : Type 0} → Direction E V → Direction E (Frame E)
unwritten c = record { valid = c.valid; codec = λ cycles. as_they_are; terms = c.terms; capacity = c.capacity; own_bound = c.own_bound }

-- the waiting frames, each in another form
abbrev pub rewritten : {A B : Type 0} → (A → B) → List (Waiting A) → List (Waiting B)
rewritten f [] = []
rewritten f (w ∷ ws) = record { frame = f w.frame; count = w.count } ∷ rewritten f ws

-- a link's past with each waiting frame in another form
abbrev pub rewritten_past : {E F A B V W : Type 0} → (A → V) → (B → W) → Past E F A B → Past E F V W
rewritten_past f g p = record {
  state = record { out = p.state.out; back = p.state.back; out_air = rewritten f p.state.out_air; back_air = rewritten g p.state.back_air };
  out = p.out;
  back = p.back;
  bytes_refused = p.bytes_refused;
}

-- cycles that a frame has room for, however short
pub record CyclesFit {E F V W : Type 0} (c : Direction E V) (d : Direction F W) : Type 0 where
  pub some : 1 ≤ c.terms.cycle
  pub short : c.terms.cycle ≤ longest_cycle
  pub back_some : 1 ≤ d.terms.cycle
  pub back_short : d.terms.cycle ≤ longest_cycle

-- however a link's frames are written, its past is that of the link whose frames travel as they are, with every waiting frame written,
-- and it answers every call alike; also where a cycle is too short
abbrev pub SameWithAnyCodec : Type 0 → Type 0 → Type 0 → Type 0 → Type 0
SameWithAnyCodec E F V W =
    (c : Direction E V) (d : Direction F W) → (x : Faithful c) (y : Faithful d) → CyclesFit c d → (h : List (Call E F)) →
    let c₂ = unwritten c in
    let d₂ = unwritten d in
    (past c d h ≡ rewritten_past x.written y.written (past c₂ d₂ h))
    × ((z : Call E F) → answers (opened c d) (opened d c) z (past c d h) ≡ answers (opened c₂ d₂) (opened d₂ c₂) z (past c₂ d₂ h))

-- what the airs did with a link's frames, and in what sequence its calls came, leaves no trace: two histories that accepted the same
-- elements lead, after a settle each, to the same past
abbrev pub SameAfterSettle : Type 0 → Type 0 → Type 0 → Type 0 → Type 0
SameAfterSettle E F V W =
    (c : Direction E V) (d : Direction F W) → Faithful c → Faithful d → Drafted c.terms d.terms → (g h : List (Call E F)) →
    (past c d g).out.accepted ≡ (past c d h).out.accepted → (past c d g).back.accepted ≡ (past c d h).back.accepted →
    (i j k l : ℕ) → CanSettle c d i j → CanSettle c d k l →
    past c d (settle i j ∷ g) ≡ past c d (settle k l ∷ h)

-- how many slots are filled
abbrev pub placed_in : {E : Type 0} → List (Option E) → ℕ
placed_in [] = 0
placed_in (None ∷ xs) = placed_in xs
placed_in (Some e ∷ xs) = placed_in xs + 1

-- what the records of a link's ends tell of a stream, how many elements its sender holds and its receiver has placed, covers what is
-- owed: no more is owed than both together, no more is placed than is owed, and no more is held than the window is wide
pub record Covered {E : Type 0} (window : ℕ) (s : Stream E) (log : Log E) : Type 0 where
  pub enough : length (owed log) ≤ length s.sender.held + placed_in s.receiver.slots
  pub placed : placed_in s.receiver.slots ≤ length (owed log)
  pub held : length s.sender.held ≤ window

-- so it is of both streams, after every history
abbrev pub AlwaysCovered : Type 0 → Type 0 → Type 0 → Type 0 → Type 0
AlwaysCovered E F V W =
    (c : Direction E V) (d : Direction F W) → Faithful c → Faithful d → Drafted c.terms d.terms → (h : List (Call E F)) →
    Covered c.terms.window (past c d h).state.out (past c d h).out × Covered d.terms.window (past c d h).state.back (past c d h).back

-- how many elements a receiver is behind a sender whose next number this is, on a cycle of m: as many as that lies after its base. Where
-- the two numbers are the same, it is a whole cycle behind if a slot is filled, and otherwise not at all
abbrev pub behind : {E : Type 0} → (m next : ℕ) → Receiver E → ℕ
behind m next r = let d = (cyclic m).distance r.base next in cond (d == 0 && nat_lt 0 (placed_in r.slots)) m d

-- how many elements a stream owes, counted from its two ends on a cycle of m
abbrev pub count_owed : {E : Type 0} → (m : ℕ) → Stream E → ℕ
count_owed m s = behind m ((cyclic m).after s.sender.low (length s.sender.held)) s.receiver

-- that is how many elements each stream owes, after every history
abbrev pub AlwaysCounted : Type 0 → Type 0 → Type 0 → Type 0 → Type 0
AlwaysCounted E F V W =
    (c : Direction E V) (d : Direction F W) → Faithful c → Faithful d → Drafted c.terms d.terms → (h : List (Call E F)) →
    (count_owed c.terms.cycle (past c d h).state.out ≡ length (owed (past c d h).out))
    × (count_owed d.terms.cycle (past c d h).state.back ≡ length (owed (past c d h).back))

-- what a call and its answer show to be accepted and passed of the stream from mast to hut
abbrev pub out_shown : {E F : Type 0} → Call E F → Answer E F → Log E
out_shown (mast a) (mast_answer r) = record { accepted = accepted_by r a []; passed = [] }
out_shown (hut a) (hut_answer r) = record { accepted = []; passed = passed_by r [] }
out_shown (settle m h) (settled_lists fs es) = record { accepted = []; passed = es }
out_shown x y = record { accepted = []; passed = [] }

-- and of the stream from hut to mast
abbrev pub back_shown : {E F : Type 0} → Call E F → Answer E F → Log F
back_shown (hut a) (hut_answer r) = record { accepted = accepted_by r a []; passed = [] }
back_shown (mast a) (mast_answer r) = record { accepted = []; passed = passed_by r [] }
back_shown (settle m h) (settled_lists fs es) = record { accepted = []; passed = fs }
back_shown x y = record { accepted = []; passed = [] }

-- a stream is a first-in first-out queue of what it owes: what a call shows to be accepted joins its end, what it shows to be passed
-- leaves its front, and never more than two windows wait in it
pub record Queued {E : Type 0} (window : ℕ) (shown before after : Log E) : Type 0 where
  pub first_out : owed before ++ shown.accepted ≡ shown.passed ++ owed after
  pub passed : after.passed ≡ before.passed ++ shown.passed
  pub accepted : after.accepted ≡ before.accepted ++ shown.accepted
  pub room : length (owed after) ≤ 2 * window

-- so is each stream, at every call
abbrev pub AlwaysQueued : Type 0 → Type 0 → Type 0 → Type 0 → Type 0
AlwaysQueued E F V W =
    (c : Direction E V) (d : Direction F W) → Faithful c → Faithful d → Drafted c.terms d.terms → (h : List (Call E F)) (x : Call E F) →
    let shown = answers (opened c d) (opened d c) x (past c d h) in
    let p = past c d h in
    let q = past c d (x ∷ h) in
    Queued c.terms.window (out_shown x shown) p.out q.out × Queued d.terms.window (back_shown x shown) p.back q.back
