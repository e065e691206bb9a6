-- A link whose frames are written and read does as one whose frames travel as they are.
use Rattle.std.proofs.Common.{◌≡◌, ℕ, true, min, List, Some, None, Ok, Option, refl, ap, ◌∙◌, mod-lt}
use Rattle.std.specs.List.{slice_get}
use Rattle.air.proofs.Nth.{all_nth}
use Rattle.frame.specs.declared.Frame.{Frame}
use Rattle.protocol.specs.Machine.{Act, act, accept_refusal, put, send_held, hear}
use Rattle.protocol.specs.Machine as machine
use Rattle.protocol.specs.Machine.Act.{accept, send, bare, lose, deliver, repeat, pass}
use Rattle.protocol.specs.Histories.{answers}
use Rattle.protocol.specs.Promises.{Sayable, Direction, Faithful, opened, past}
use Rattle.protocol.specs.Laws.{rewritten, CyclesFit, SameWithAnyCodec, unwritten}
use Rattle.protocol.proofs.Plain.{Shape, Packet, Setting, State, Past, cycling}
use Rattle.protocol.proofs.Rewritten.{Rewrites, put_seen, lose_seen, deliver_seen, repeat_seen, length_rewritten}
use Rattle.protocol.proofs.Bridge.{Half, Bridge, renamed, seen, unless_seen, after_kept, after_same, answers_same}
use Rattle.protocol.proofs.Sound.{Sound, turned_sound, act_sound}

-- what a direction has beside its codec and its cycle
abbrev pub shape : {E V : Type 0} → Direction E V → Shape E
shape c = record { valid = c.valid; window = c.terms.window; bound = min c.terms.bound c.own_bound; capacity = c.capacity }

-- its settings, with its frames as they are
abbrev pub plain : {E V : Type 0} → Direction E V → Setting E
plain c = cycling (shape c) c.terms.cycle

-- a link's state, with every waiting frame written
abbrev pub written : {E F V W : Type 0} {c : Direction E V} {d : Direction F W} → Faithful c → Faithful d → State E F → machine.State E F V W
written x y s = record { out = s.out; back = s.back; out_air = rewritten x.written s.out_air; back_air = rewritten y.written s.back_air }

-- what holds of every past of the link whose frames travel as they are
abbrev pub SoundPast : {E F V W : Type 0} → Direction E V → Direction F W → Past E F → Type 0
SoundPast c d p = Sound (shape c) (shape d) c.terms.cycle d.terms.cycle p.state p.bytes_refused

module _ {E F V W : Type 0} {c : Direction E V} {d : Direction F W} (x : Faithful c) (y : Faithful d) (z : CyclesFit c d) where
  abbrev C : machine.Setting E V
  C = opened c d

  abbrev D : machine.Setting F W
  D = opened d c

  abbrev φ : State E F → machine.State E F V W
  φ = written x y

  abbrev CanSay : Frame E → Type 0
  CanSay f = Sayable c.valid (record { ack = d.terms.cycle; number = c.terms.cycle }) f

  -- each waiting frame is written
  rewrites : Rewrites C (plain c) φ x.written
  rewrites = record { capacity = refl; bound = refl; airs = λ s ws. refl }

  -- a frame that can be said joins the air as it is written, and so does a held element
  put_alike : (s : State E F) (f : Frame E) → CanSay f → put C f (φ s) ≡ seen φ (put (plain c) f s)
  put_alike s f q = put_seen rewrites s f f f (x.writes _ z.back_short z.short f q) refl

  send_alike : (p : Past E F) → SoundPast c d p → (k : ℕ) (o : Option E) → slice_get p.state.out.sender.held k ≡ o →
      send_held C D k o (φ p.state) ≡ seen φ (send_held (plain c) (plain d) k o p.state)
  send_alike p h k None e = refl
  send_alike p h k (Some a) e =
      put_alike p.state _ (mod-lt _ z.back_some, mod-lt _ z.some, all_nth (λ e. c.valid e ≡ true) k p.state.out.sender.held a e h.out.elements)

  -- a frame that waits is read as it was said
  hear_alike : (p : Past E F) → SoundPast c d p → (k : ℕ) (w : Packet E) → slice_get p.state.out_air k ≡ Some w → (ws : List (Packet E)) →
      hear C D (C.codec.read (x.written w.frame)) (rewritten x.written ws) (φ p.state) ≡ seen φ (hear (plain c) (plain d) (Ok w.frame) ws p.state)
  hear_alike p h k w at ws = rw (x.reads _ z.back_short z.short w.frame (all_nth (λ (w : Packet E). CanSay w.frame) k p.state.out_air w at h.out.frames))

  act_alike : (a : Act E) (p : Past E F) → SoundPast c d p → act C D a (φ p.state) ≡ seen φ (act (plain c) (plain d) a p.state)
  act_alike (accept e) p h = unless_seen φ (accept_refusal C e (φ p.state).out.sender) (accept_refusal (plain c) e p.state.out.sender) p.state refl refl
  act_alike (send k) p h = send_alike p h k (slice_get p.state.out.sender.held k) refl
  act_alike bare p h = put_alike p.state _ (mod-lt _ z.back_some)
  act_alike (lose k) p h = lose_seen rewrites p.state D (plain d) k
  act_alike (deliver k) p h = deliver_seen rewrites p.state D (plain d) k (hear_alike p h k)
  act_alike (repeat k) p h = repeat_seen rewrites p.state D (plain d) k (hear_alike p h k)
  act_alike pass p h = refl

  half : Half true C D (plain c) (plain d) (SoundPast c d) φ
  half = record {
    kept = λ a s p h. act_sound z.some z.back_some h a;
    alike = λ a s. act_alike a;
    wait = λ s. length_rewritten x.written s.out_air;
    held = λ s. refl;
    window = refl;
    capacity = refl;
  }

module _ {E F V W : Type 0} {c : Direction E V} {d : Direction F W} (x : Faithful c) (y : Faithful d) (z : CyclesFit c d) where
  -- however a link's frames are written, it is the link whose frames travel as they are, seen with every waiting frame written
  pub encodes : Bridge (opened c d) (opened d c) (plain c) (plain d) (SoundPast c d) (written x y)
  encodes =
      let back : CyclesFit d c = record { some = z.back_some; short = z.back_short; back_some = z.some; back_short = z.short } in
      record {
        halves = record { here = half x y z; there = renamed (half y x back) (λ p. turned_sound) (λ p. turned_sound) };
        begins = record { out = record { elements = tt; frames = tt }; back = record { elements = tt; frames = tt }; clear = refl };
        begins_alike = refl;
      }

pub same_with_any_codec : {E F V W : Type 0} → SameWithAnyCodec E F V W
same_with_any_codec c d x y z h =
    let b = encodes x y z in
    let same = after_same b h in
    (same, λ q. ap (answers (opened c d) (opened d c) q) same ∙ answers_same b q (past (unwritten c) (unwritten d) h) (after_kept b h))
