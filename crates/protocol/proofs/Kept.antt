-- What holds of a link whose numbers never start over, and that every act keeps it.
use Rattle.std.proofs.Common.{◌≡◌, ℕ, ◌+◌, ◌-◌, ◌<◌, ◌≤◌, ◌⊎◌, inl, inr, true, false, List, [], ◌∷◌, length, drop, Some, None, Option, sym, refl, ap, ◌∙◌, subst, arith}
use Rattle.std.specs.List.{slice_get}
use Rattle.std.proofs.lemmas.Bool.Decides.{nat_tests}
use Rattle.air.specs.Waiting.{overtaken, without, barred}
use Rattle.air.proofs.Nth.{none_some, nth_push, all_nth}
use Rattle.air.proofs.StepLaws.{answer_free}
use Rattle.refusal.specs.declared.Refusal.{Refusal}
use Rattle.protocol.specs.Windows.{Sender, first_slot, first_free, moved_on, endless}
use Rattle.protocol.specs.Machine.{Setting as AnySetting, Act, accept_refusal, air_of, act_unless, send_held, hear_waiting, step, with_air, act}
use Rattle.protocol.specs.Machine.Act.{accept, send, bare, lose, deliver, repeat, pass}
use Rattle.protocol.specs.Machine.Reply.{passed_on}
use Rattle.protocol.specs.Histories.{turned_past, after_step, does}
use Rattle.protocol.proofs.Plain.{Shape, Packet, Past, Step, unending}
use Rattle.protocol.proofs.Chains.{chain_without, chain_all}
use Rattle.protocol.proofs.Slots.{above}
use Rattle.protocol.proofs.Streams.{StreamInv, inv_accept, inv_pass, pass_received, pass_reach, ack_heard, frame_heard}
use Rattle.protocol.proofs.Frames.{FrameInv, PairInv, AirInv, air_overtaken, air_same, air_bare, air_laden}

-- both streams and both airs are as they should be
pub record LinkInv {E F : Type 0} (T : Shape E) (U : Shape F) (p : Past E F) : Type 0 where
  pub out : StreamInv T.window p.state.out p.out
  pub back : StreamInv U.window p.state.back p.back
  pub out_air : AirInv T U p.out.accepted p.state.out p.state.back p.state.out_air
  pub back_air : AirInv U T p.back.accepted p.state.back p.state.out p.state.back_air

-- limits on the windows of both streams
pub record Windows {E F : Type 0} (T : Shape E) (U : Shape F) : Type 0 where
  pub some : 1 ≤ T.window
  pub narrow : T.window ≤ 32
  pub back_some : 1 ≤ U.window
  pub back_narrow : U.window ≤ 32

-- the same from the other end
pub turned_windows : {E F : Type 0} {T : Shape E} {U : Shape F} → Windows T U → Windows U T
turned_windows w = record { some = w.back_some; narrow = w.back_narrow; back_some = w.some; back_narrow = w.narrow }

-- the same from the other end
pub turned_inv : {E F : Type 0} {T : Shape E} {U : Shape F} {p : Past E F} → LinkInv T U p → LinkInv U T (turned_past p)
turned_inv h = record { out = h.back; back = h.out; out_air = h.back_air; back_air = h.out_air }

-- an element that is not refused finds room, and is one of its kind
pub accept_free : {E V : Type 0} (c : AnySetting E V) (e : E) (s : Sender E) → accept_refusal c e s ≡ None → (length s.held < c.window) × (c.valid e ≡ true)
accept_free c e s free = grind (arith, nat_tests)

-- a first slot that is filled stands before the others
first_some : {E : Type 0} (xs : List (Option E)) (f : E) → first_slot xs ≡ Some f → xs ≡ Some f ∷ drop 1 xs
first_some [] f e = absurd (none_some f e)
first_some (x ∷ xs) f e = ap (λ z. z ∷ xs) e

module _ {E F : Type 0} {T : Shape E} {U : Shape F} (w : Windows T U) {p : Past E F} (h : LinkInv T U p) where
  abbrev Then : Act E → Step E F → Type 0
  Then a t = LinkInv T U (after_step a t p)

  -- the same, with other frames in the air that goes out
  airs_kept : {ws : List (Packet E)} {n : ℕ} → AirInv T U p.out.accepted p.state.out p.state.back ws → LinkInv T U (record p { state = with_air p.state ws; bytes_refused = n })
  airs_kept q = record { out = h.out; back = h.back; out_air = q; back_air = h.back_air }

  unless_kept : (a : Act E) (o : Option Refusal) (t : Step E F) → (o ≡ None → Then a t) → Then a (act_unless o t p.state)
  unless_kept a None t f = f refl
  unless_kept a (Some r) t f = airs_kept h.out_air

  accept_kept : (e : E) → Then (accept e) (act (unending T) (unending U) (accept e) p.state)
  accept_kept e = unless_kept (accept e) _ _ (λ free. record {
    out = inv_accept h.out e (accept_free (unending T) e p.state.out.sender free).0;
    back = h.back;
    out_air = air_same T U (record { grown = λ x q g. nth_push p.out.accepted e q x g; same = λ y. refl; lower = omega arith; further = omega arith }) p.state.out_air h.out_air;
    back_air = air_same U T (record { grown = λ x q g. g; same = λ y. refl; lower = omega arith; further = omega arith }) p.state.back_air h.back_air;
  })

  send_kept : (k : ℕ) (o : Option E) → slice_get p.state.out.sender.held k ≡ o → Then (send k) (send_held (unending T) (unending U) k o p.state)
  send_kept k None e = airs_kept h.out_air
  send_kept k (Some x) e = unless_kept (send k) _ _ (λ _. airs_kept (air_laden T U h.out h.back p.state.out_air k x e h.out_air))

  abbrev WaitsNow : Packet E → Type 0
  WaitsNow = FrameInv T U p.out.accepted p.state.out p.state.back

  -- frame v, at place k, is heard; it stays or is gone
  answer_kept : (a : Act E) (k : ℕ) (o : Option (Packet E)) (rest : List (Packet E)) → slice_get p.state.out_air k ≡ o → barred T.bound k p.state.out_air ≡ false →
      (rest ≡ overtaken k p.state.out_air) ⊎ (rest ≡ without k (overtaken k p.state.out_air)) → Then a (hear_waiting (unending T) (unending U) o rest p.state)
  answer_kept a k None rest e free which = airs_kept h.out_air
  answer_kept a k (Some v) rest e free which =
      let i = all_nth WaitsNow k p.state.out_air v e (chain_all WaitsNow (PairInv T.window) p.state.out_air h.out_air) in
      let x = frame_heard w.narrow v.frame v.count h.out i.load in
      let y = ack_heard w.back_narrow _ h.back i.told in
      let moved = air_overtaken T U w.some v x y k p.state.out_air e free h.out_air in
      record {
        out = x.inv;
        back = y.inv;
        out_air = elim which [ inl q ↦ rw q moved | inr q ↦ rw q (chain_without _ (PairInv T.window) k _ moved) ];
        back_air = air_same U T (record { grown = λ x q g. g; same = λ y. refl; lower = omega arith; further = x.further }) p.state.back_air h.back_air;
      }

  pass_kept : (x : Option F) → first_slot p.state.back.receiver.slots ≡ x → Then pass (step (record p.state { back = record p.state.back { receiver = moved_on endless x p.state.back.receiver } }) (passed_on x))
  pass_kept None e = h
  pass_kept (Some f) e =
      let s' = p.state.back in
      let b = s'.receiver.base in
      let xs = drop 1 s'.receiver.slots in
      let q = first_some s'.receiver.slots f e in
      let top = pass_reach f b xs ∙ ap (λ (z : List (Option F)). b + first_free z) (sym q) in
      record {
        out = h.out;
        back = inv_pass (subst (λ z. StreamInv U.window (record { sender = s'.sender; receiver = record { base = b; slots = z } }) p.back) q h.back);
        out_air = air_same T U (record { grown = λ x q g. g; same = λ y. refl; lower = omega arith; further = omega arith }) p.state.out_air h.out_air;
        back_air = air_same U T (record { grown = λ x q g. g; same = λ y. pass_received f b y xs ∙ ap (λ (z : List (Option F)). (b - y) + above y b z) (sym q); lower = omega arith; further = omega arith }) p.state.back_air h.back_air;
      }

  pub act_kept : (a : Act E) → LinkInv T U (does (unending T) (unending U) a p)
  act_kept (accept e) = accept_kept e
  act_kept (send k) = send_kept k (slice_get p.state.out.sender.held k) refl
  act_kept bare = unless_kept bare _ _ (λ _. airs_kept (air_bare T U h.out h.back p.state.out_air h.out_air))
  act_kept (lose k) = unless_kept (lose k) _ _ (λ _. airs_kept (chain_without WaitsNow (PairInv T.window) k p.state.out_air h.out_air))
  act_kept (deliver k) = unless_kept (deliver k) _ _ (λ free. answer_kept (deliver k) k (slice_get p.state.out_air k) _ refl (answer_free k (air_of (unending T) p.state.out_air) free).1 (inr refl))
  act_kept (repeat k) = unless_kept (repeat k) _ _ (λ free. answer_kept (repeat k) k (slice_get p.state.out_air k) _ refl (answer_free k (air_of (unending T) p.state.out_air) free).1 (inl refl))
  act_kept pass = pass_kept (first_slot p.state.back.receiver.slots) refl
