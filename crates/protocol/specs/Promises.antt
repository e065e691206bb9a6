-- What a link promises that is drafted within the limits, however its frames are written.
use Rattle.std.specs.Prelude.{◌≡◌, ℕ, ◌+◌, ◌*◌, ◌%◌, ◌<◌, ◌≤◌, ◌↔◌, min, Bool, true, List, [], length, replicate, None, Ok}
use Rattle.frame.specs.declared.Cycles.{Cycles}
use Rattle.frame.specs.declared.Frame.{Frame}
use Rattle.frame.specs.declared.Frame.TheVariants.{Bare, Laden}
use Rattle.protocol.specs.declared.terms.Terms.{Terms}
use Rattle.protocol.specs.Windows.{cyclic}
use Rattle.protocol.specs.Drafts.{Drafted, least_cycle, longest_cycle}
use Rattle.protocol.specs.Machine.{Codec, Setting, Stream, State}
use Rattle.protocol.specs.Histories.{Log, Past, Call, settle, settled_lists, calls, answers, after}
use Rattle.protocol.specs.Delivery.{InStep, Delivers, StreamSettled, owed}

-- one direction of a link: which values are elements of its kind, how its frames are written on given cycles, its terms, and how many
-- frames may wait in its air and how often the air by itself lets one be overtaken
pub record Direction (E V : Type 0) : Type 0 where
  pub valid : E → Bool
  pub codec : Cycles → Codec E V
  pub terms : Terms
  pub capacity : ℕ
  pub own_bound : ℕ

-- the same with another cycle
abbrev pub at_cycle : {E V : Type 0} → ℕ → Direction E V → Direction E V
at_cycle m c = record c { terms = record c.terms { cycle = m } }

-- the settings of an open link's direction c, d being the other. Its air is held to the drafted bound, or to its own if that is smaller
abbrev pub opened : {E F V W : Type 0} → Direction E V → Direction F W → Setting E V
opened c d = record {
  valid = c.valid;
  codec = c.codec (record { ack = d.terms.cycle; number = c.terms.cycle });
  window = c.terms.window;
  numbers = cyclic c.terms.cycle;
  capacity = c.capacity;
  bound = min c.terms.bound c.own_bound;
}

-- a frame that can be said on these cycles: its numbers are below them, and its element is one of the kind
abbrev pub Sayable : {E : Type 0} → (E → Bool) → Cycles → Frame E → Type 0
Sayable valid cycles (Bare ack) = ack < cycles.ack
Sayable valid cycles (Laden ack number e) = (ack < cycles.ack) × (number < cycles.number) × (valid e ≡ true)

-- when a direction's codec can be relied on: its kind has at least one element, and on cycles that are not too long every frame that
-- can be said is written, whatever the cycles in the same way, and read back as what it says
pub record Faithful {E V : Type 0} (c : Direction E V) : Type 0 where
  pub element : E
  pub element_valid : c.valid element ≡ true
  pub written : Frame E → V
  pub writes :
      (cycles : Cycles) → cycles.ack ≤ longest_cycle → cycles.number ≤ longest_cycle →
      (f : Frame E) → Sayable c.valid cycles f → (c.codec cycles).write f ≡ Ok (written f)
  pub reads :
      (cycles : Cycles) → cycles.ack ≤ longest_cycle → cycles.number ≤ longest_cycle →
      (f : Frame E) → Sayable c.valid cycles f → (c.codec cycles).read (written f) ≡ Ok f

-- a stream of which all was passed and acknowledged
abbrev pub rested : {E : Type 0} → Terms → List E → Stream E
rested t accepted = record {
  sender = record { low = length accepted % t.cycle; held = [] };
  receiver = record { base = length accepted % t.cycle; slots = replicate t.window None };
}

-- each air allows what the histories need that show the limits: room for two frames or more, and a bound of its own that is not below
-- the drafted one
pub record AirsAllow {E F V W : Type 0} (c : Direction E V) (d : Direction F W) : Type 0 where
  pub room : 2 ≤ c.capacity
  pub back_room : 2 ≤ d.capacity
  pub own_bound_enough : c.terms.bound ≤ c.own_bound
  pub back_own_bound_enough : d.terms.bound ≤ d.own_bound

module _ {E F V W : Type 0} (c : Direction E V) (d : Direction F W) where
  -- the past of a link after a history
  abbrev pub past : List (Call E F) → Past E F V W
  past h = after (opened c d) (opened d c) h

  -- a link of which all was passed and acknowledged: nothing waits, is held or is placed
  abbrev pub at_rest : List E → List F → Past E F V W
  at_rest accepted back_accepted = record {
    state = record { out = rested c.terms accepted; back = rested d.terms back_accepted; out_air = []; back_air = [] };
    out = record { accepted = accepted; passed = accepted };
    back = record { accepted = back_accepted; passed = back_accepted };
    bytes_refused = 0;
  }

  -- settle can be done with lists of m and h places: each has two windows of the stream that ends there, and each air has room for a frame
  pub record CanSettle (m h : ℕ) : Type 0 where
    pub mast_list : 2 * d.terms.window ≤ m
    pub hut_list : 2 * c.terms.window ≤ h
    pub room : 1 ≤ c.capacity
    pub back_room : 1 ≤ d.capacity

  -- settle, called after the past p with lists of m and h places: it settles both streams, each list gets exactly what its end was owed,
  -- and the link is at rest, with no trace of what became of its frames before. The others follow from this last
  pub record Settles (p : Past E F V W) (m h : ℕ) : Type 0 where
    pub out : let q = calls (opened c d) (opened d c) (settle m h) p in StreamSettled c.terms.window q.state.out p.out q.out
    pub back : let q = calls (opened c d) (opened d c) (settle m h) p in StreamSettled d.terms.window q.state.back p.back q.back
    pub written : answers (opened c d) (opened d c) (settle m h) p ≡ settled_lists (owed p.back) (owed p.out)
    pub rests : calls (opened c d) (opened d c) (settle m h) p ≡ at_rest p.out.accepted p.back.accepted

  -- a link with the past p delivers: each stream does, a settle that can be done settles both, and no call was ever refused for the
  -- bytes of a frame
  pub record LinkDelivers (p : Past E F V W) : Type 0 where
    pub out : Delivers c.terms.window p.state.out p.out
    pub back : Delivers d.terms.window p.state.back p.back
    pub settles : (m h : ℕ) → CanSettle m h → Settles p m h
    pub understood : p.bytes_refused ≡ 0

  -- a limit on the cycle of one stream is exact; stream and log pick that stream out of a past. The stream is in step after every history
  -- exactly when the limit holds, and it delivers after every history exactly then. Where the limit does not hold, there is a history after
  -- which it is out of step
  pub record Exact {X : Type 0} (window : ℕ) (stream : Past E F V W → Stream X) (log : Past E F V W → Log X) (limit : Type 0) : Type 0 where
    pub in_step : ((h : List (Call E F)) → InStep window (log (past h))) ↔ limit
    pub delivers : ((h : List (Call E F)) → Delivers window (stream (past h)) (log (past h))) ↔ limit
    pub broken : (limit → ⊥) → (h : List (Call E F)) × (InStep window (log (past h)) → ⊥)

-- the whole promise of a link in the state s: it delivers after every history that leads there, and the limits are exact: for each
-- cycle m of either stream, from its window + 1 to the longest, the other stream being as drafted, the limit is that m is at least the
-- least cycle
pub record Promise {E F V W : Type 0} (c : Direction E V) (d : Direction F W) (s : State E F V W) : Type 0 where
  pub delivers : (h : List (Call E F)) → (past c d h).state ≡ s → LinkDelivers c d (past c d h)
  pub exact :
      AirsAllow c d → (m : ℕ) → c.terms.window + 1 ≤ m → m ≤ longest_cycle →
      Exact (at_cycle m c) d c.terms.window (λ p. p.state.out) (λ p. p.out) (least_cycle c.terms.window c.terms.bound d.terms.bound ≤ m)
  pub back_exact :
      AirsAllow c d → (m : ℕ) → d.terms.window + 1 ≤ m → m ≤ longest_cycle →
      Exact c (at_cycle m d) d.terms.window (λ p. p.state.back) (λ p. p.back) (least_cycle d.terms.window d.terms.bound c.terms.bound ≤ m)

-- every link that is drafted within the limits, over codecs that can be relied on, keeps the whole promise in every state
abbrev pub AlwaysPromises : Type 0 → Type 0 → Type 0 → Type 0 → Type 0
AlwaysPromises E F V W =
    (c : Direction E V) (d : Direction F W) → Faithful c → Faithful d → Drafted c.terms d.terms → (s : State E F V W) → Promise c d s
