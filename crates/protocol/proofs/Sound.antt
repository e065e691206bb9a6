-- Every frame that waits can be said, every held element is valid, and no call was refused for the bytes of a frame: this holds after
-- every act, however short the cycles.
use Rattle.std.proofs.Common.{◌≡◌, ℕ, ◌<◌, ◌≤◌, Bool, true, leb, List, length, Some, None, Option, refl, ap, ◌∙◌, mod-lt, arith}
use Rattle.std.specs.List.{AllByRecursion, slice_get}
use Rattle.std.proofs.ByRecursion.{All-drop, All-push}
use Rattle.std.proofs.lemmas.Bool.{cond_both}
use Rattle.std.proofs.lemmas.Bool.Decides.{nat_tests}
use Rattle.refusal.specs.Refusals.{place_of}
use Rattle.refusal.specs.declared.Refusal.{Refusal}
use Rattle.air.specs.Waiting.{fresh, overtaken}
use Rattle.air.specs.Steps.{room_refusal, place_refusal, answer_refusal}
use Rattle.air.proofs.Nth.{all_nth, all_without}
use Rattle.frame.specs.declared.Frame.{Frame}
use Rattle.protocol.specs.Windows.{cyclic, ack_of, acknowledged, next_free}
use Rattle.protocol.specs.Machine.{Act, turned, air_of, accept_refusal, act_unless, put, send_held, hear_waiting, act}
use Rattle.protocol.specs.Machine.Act.{accept, send, bare, lose, deliver, repeat, pass}
use Rattle.protocol.specs.Histories.{counted, bytes_refused_by}
use Rattle.protocol.specs.Promises.{Sayable}
use Rattle.protocol.proofs.Chains.{all_overtaken}
use Rattle.protocol.proofs.Plain.{Shape, Packet, State, Step, cycling}

-- the elements that are held of a stream are valid, and the frames in its air can be said, with m numbers and with acknowledgements of m'
pub record Fair {E : Type 0} (valid : E → Bool) (m m' : ℕ) (held : List E) (air : List (Packet E)) : Type 0 where
  pub elements : AllByRecursion (λ e. valid e ≡ true) held
  pub frames : AllByRecursion (λ (w : Packet E). Sayable valid (record { ack = m'; number = m }) w.frame) air

-- both streams are fair, and no call was refused for the bytes of a frame
pub record Sound {E F : Type 0} (T : Shape E) (U : Shape F) (m m' : ℕ) (s : State E F) (bytes_refused : ℕ) : Type 0 where
  pub out : Fair T.valid m m' s.out.sender.held s.out_air
  pub back : Fair U.valid m' m s.back.sender.held s.back_air
  pub clear : bytes_refused ≡ 0

pub turned_sound : {E F : Type 0} {T : Shape E} {U : Shape F} {m m' n : ℕ} {s : State E F} → Sound T U m m' s n → Sound U T m' m (turned s) n
turned_sound h = record { out = h.back; back = h.out; clear = h.clear }

-- the place of a refusal, if there is a refusal and it has a place
abbrev place_in : Option Refusal → Option ℕ
place_in None = None
place_in (Some r) = place_of r

module _ {E F : Type 0} {T : Shape E} {U : Shape F} {m m' n : ℕ} {s : State E F} (some : 1 ≤ m) (back_some : 1 ≤ m') (h : Sound T U m m' s n) where
  -- it holds after a step
  abbrev Then : Step E F → Type 0
  Then t = Sound T U m m' t.state (bytes_refused_by t.reply n)

  abbrev CanSay : Frame E → Type 0
  CanSay f = Sayable T.valid (record { ack = m'; number = m }) f

  abbrev CanSayAll : List (Packet E) → Type 0
  CanSayAll ws = AllByRecursion (λ w. CanSay w.frame) ws

  -- a refusal without a place keeps it; without a refusal it must hold after the step
  unless_sound : (o : Option Refusal) (t : Step E F) → place_in o ≡ None → (o ≡ None → Then t) → Then (act_unless o t s)
  unless_sound None t e f = f refl
  unless_sound (Some r) t e f = record { out = h.out; back = h.back; clear = ap (λ x. counted x n) e ∙ h.clear }

  -- the same elements are held, and these frames are left in the air
  left : {rest : List (Packet E)} → CanSayAll rest → Fair T.valid m m' s.out.sender.held rest
  left q = record { elements = h.out.elements; frames = q }

  put_sound : (f : Frame E) → CanSay f → Then (put (cycling T m) f s)
  put_sound f q =
      unless_sound (room_refusal (air_of (cycling T m) s.out_air)) _ (grind (arith, nat_tests))
      (λ _. record { out = left (All-push (λ w. CanSay w.frame) s.out_air (fresh f) h.out.frames q); back = h.back; clear = h.clear })

  ack_below : next_free (cyclic m') s.back.receiver < m'
  ack_below = mod-lt _ back_some

  send_sound : (k : ℕ) (o : Option E) → slice_get s.out.sender.held k ≡ o → Then (send_held (cycling T m) (cycling U m') k o s)
  send_sound k None e = record { out = h.out; back = h.back; clear = h.clear }
  send_sound k (Some x) e = put_sound _ (ack_below, mod-lt _ some, all_nth (λ e. T.valid e ≡ true) k s.out.sender.held x e h.out.elements)

  -- what an acknowledgement releases is held no more
  released_sound : (ack : ℕ) → AllByRecursion (λ f. U.valid f ≡ true) (acknowledged (cyclic m') ack s.back.sender).held
  released_sound ack =
      let d = (cyclic m').distance s.back.sender.low ack in
      cond_both (leb d (length s.back.sender.held)) _ s.back.sender (λ x. AllByRecursion (λ f. U.valid f ≡ true) x.held)
      (λ _. All-drop (λ f. U.valid f ≡ true) d s.back.sender.held h.back.elements) (λ _. h.back.elements)

  hear_sound : (o : Option (Packet E)) (rest : List (Packet E)) → CanSayAll rest → Then (hear_waiting (cycling T m) (cycling U m') o rest s)
  hear_sound None rest q = record { out = h.out; back = h.back; clear = h.clear }
  hear_sound (Some w) rest q = record { out = left q; back = record { elements = released_sound (ack_of w.frame); frames = h.back.frames }; clear = h.clear }

  answered_sound : (k : ℕ) (rest : List (Packet E)) → CanSayAll rest →
      Then (act_unless (answer_refusal k (air_of (cycling T m) s.out_air)) (hear_waiting (cycling T m) (cycling U m') (slice_get s.out_air k) rest s) s)
  answered_sound k rest q =
      unless_sound (answer_refusal k (air_of (cycling T m) s.out_air)) _ (grind (arith, nat_tests)) (λ _. hear_sound (slice_get s.out_air k) rest q)

  -- what can be said does not depend on how often it was overtaken
  raised_all : (k : ℕ) → CanSayAll (overtaken k s.out_air)
  raised_all k = all_overtaken (λ w. CanSay w.frame) (λ w q. q) k s.out_air h.out.frames

  pub act_sound : (a : Act E) → Then (act (cycling T m) (cycling U m') a s)
  act_sound (accept e) =
      unless_sound (accept_refusal (cycling T m) e s.out.sender) _ (grind (arith, nat_tests))
      (λ free. record {
        out = record { elements = All-push (λ e. T.valid e ≡ true) s.out.sender.held e h.out.elements (grind (arith, nat_tests)); frames = h.out.frames };
        back = h.back;
        clear = h.clear;
      })
  act_sound (send k) = send_sound k (slice_get s.out.sender.held k) refl
  act_sound bare = put_sound _ ack_below
  act_sound (lose k) =
      unless_sound (place_refusal k (air_of (cycling T m) s.out_air)) _ (grind (arith, nat_tests))
      (λ _. record { out = left (all_without (λ w. CanSay w.frame) k s.out_air h.out.frames); back = h.back; clear = h.clear })
  act_sound (deliver k) = answered_sound k _ (all_without (λ w. CanSay w.frame) k (overtaken k s.out_air) (raised_all k))
  act_sound (repeat k) = answered_sound k _ (raised_all k)
  act_sound pass = record { out = h.out; back = h.back; clear = h.clear }
