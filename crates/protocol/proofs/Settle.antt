-- What the parts of settle come to on a link whose numbers never start over.
use Rattle.std.proofs.Common.{◌≡◌, ℕ, zero, suc, ◌+◌, ◌-◌, ◌<◌, ◌≤◌, List, [], ◌∷◌, ◌++◌, length, drop, set, Some, None, Ok, Option, refl, ap, ◌∙◌, inl, inr, arith, length-set}
use Rattle.std.specs.List.{slice_get}
use Rattle.std.proofs.lemmas.Bool.{lt-leb}
use Rattle.frame.specs.declared.Frame.TheVariants.{Laden}
use Rattle.std.specs.Fn.{iterate}
use Rattle.protocol.specs.Windows.{Sender, Receiver, endless, first_free, first_slot, filled, slot_for, hearing, acknowledged, moved_on}
use Rattle.protocol.specs.Machine.{hear}
use Rattle.protocol.specs.Machine.Act.{deliver, pass}
use Rattle.protocol.specs.Histories.{does, other_does, up_to, emptied, all_passed, sent_over, all_sent, reported, flushed}
use Rattle.protocol.proofs.Plain.{Shape, Setting, Packet, State, Past, unending}
use Rattle.protocol.proofs.Slots.{nth_some, free_push, free_le, free_fits}
use Rattle.protocol.proofs.Streams.{StreamInv, reach, slot_view, ack_ahead}

-- passing the first slot's element
abbrev pub passing : {E : Type 0} → Receiver E → Receiver E
passing r = moved_on endless (first_slot r.slots) r

-- the slots before the first free one are passed, if as many may be
pub all_on : {E : Type 0} (k b : ℕ) (xs : List (Option E)) → first_free xs ≤ k →
    let r = iterate passing k (record { base = b; slots = xs }) in (r.base ≡ b + first_free xs) × (first_free r.slots ≡ 0)
all_on zero b xs h = (omega arith, omega arith)
all_on (suc k) b [] h = all_on k b [] (omega arith)
all_on (suc k) b (None ∷ xs) h = all_on k b (None ∷ xs) (omega arith)
all_on (suc k) b (Some e ∷ xs) h = let a = all_on k (b + 1) (xs ++ (None ∷ [])) (rw free_push (omega arith)) in (a.0 ∙ rw free_push (omega arith), a.1)

-- once slot d, which is not past the first free one, is filled, the first free one is past it
free_fill : {E : Type 0} (xs : List (Option E)) (d : ℕ) (e : E) → d ≤ first_free xs → d < length xs → d < first_free (set xs d (Some e))
free_fill (x ∷ xs) zero e h l = omega arith
free_fill (Some x ∷ xs) (suc d) e h l = omega (arith, free_fill xs d e (omega arith) (omega arith))
free_fill xs d e h l = absurd (omega arith)

length_filled : {E : Type 0} (xs : List (Option E)) (o : Option ℕ) (e : E) → length (filled o e xs) ≡ length xs
length_filled xs None e = refl
length_filled xs (Some d) e = length-set xs d (Some e)

-- once a number up to the first free one is heard, the first free one is past it
heard_reach : {E : Type 0} (n a x : ℕ) (e : E) (r : Receiver E) → n ≤ 32 →
    x ≤ reach r → x < r.base + n → length r.slots ≡ n → x < reach (hearing endless n (Laden a x e) r)
heard_reach n a x e r small h i wide = elim (slot_view r.base n x small) [
  | inl v ↦ rw v.1 (omega (arith, v.0))
  | inr v ↦ rw v.3 (omega (arith, v.1, free_fill r.slots v.0 e (omega (arith, v.1)) (omega (arith, v.2))))
]

-- frames on their way from here, once heard, have changed the receiver of the stream out of here and the sender of the other
abbrev pub over : {E F : Type 0} → Receiver E → Sender F → State E F → State E F
over r u s = record { out = record s.out { receiver = r }; back = record s.back { sender = u }; out_air = []; back_air = s.back_air }

-- the state after the other end has heard what was received here
abbrev pub told : {E F : Type 0} → State E F → State E F
told s =
    let a = reach s.back.receiver in
    over s.out.receiver (record { low = a; held = drop (a - s.back.sender.low) s.back.sender.held }) s

-- k of the elements held at s are sent and heard, in sequence
record Sent {E F : Type 0} (n k : ℕ) (s t : State E F) : Type 0 where
  receiver : Receiver E
  sender : Sender F
  is : t ≡ over receiver sender s
  base : receiver.base ≡ s.out.receiver.base
  wide : length receiver.slots ≡ n
  reached : s.out.sender.low + k ≤ reach receiver

-- all that the stream out of here owes is sent, heard and passed
pub record Flushed {E F : Type 0} (p q : Past E F) : Type 0 where
  pub out_air : q.state.out_air ≡ []
  pub back_air : q.state.back_air ≡ p.state.back_air
  pub base : length p.out.accepted ≤ q.state.out.receiver.base
  pub same : q.state.back.receiver ≡ p.state.back.receiver

module _ {E F : Type 0} (T : Shape E) (U : Shape F) where
  abbrev c : Setting E
  c = unending T

  abbrev d : Setting F
  d = unending U

  -- the oldest frame is heard
  deliver_first : (q : Past E F) (w : Packet E) (ws : List (Packet E)) → q.state.out_air ≡ w ∷ ws →
      (does c d (deliver 0) q).state ≡ (hear c d (Ok w.frame) ws q.state).state
  deliver_first q w ws e = let i : 0 < length (w ∷ ws) = omega arith in rw (e, lt-leb (length (w ∷ ws)) 0 i)

  emptied_by : (ws : List (Packet E)) (q : Past E F) → q.state.out_air ≡ ws →
      let t = (iterate (does c d (deliver 0)) (length ws) q).state in (t.out_air ≡ []) × (t.back_air ≡ q.state.back_air)
  emptied_by [] q e = (e, refl)
  emptied_by (w ∷ ws) q e =
      let a = deliver_first q w ws e in
      let b = emptied_by ws (does c d (deliver 0) q) (ap (λ s. s.out_air) a) in
      (b.0, b.1 ∙ ap (λ s. s.back_air) a)

  -- the air is emptied, and the other left as it is
  pub emptied_airs : (q : Past E F) → ((emptied c d q).state.out_air ≡ []) × ((emptied c d q).state.back_air ≡ q.state.back_air)
  emptied_airs q = emptied_by q.state.out_air q refl

  -- the other end passes
  passed_state : (k : ℕ) (q : Past E F) →
      (iterate (other_does c d pass) k q).state ≡ record q.state { out = record q.state.out { receiver = iterate passing k q.state.out.receiver } }
  passed_state zero q = refl
  passed_state (suc k) q = passed_state k (other_does c d pass q)

  -- the state after the other end has passed what it can
  abbrev pub all_moved : State E F → State E F
  all_moved s = record s { out = record s.out { receiver = iterate passing T.window s.out.receiver } }

  pub all_passed_state : (q : Past E F) → (all_passed c d q).state ≡ all_moved q.state
  all_passed_state q = passed_state T.window q

  module _ (room : 1 ≤ T.capacity) where
    -- held element k is sent into an empty air and heard
    sent_over_state : (k : ℕ) (e : E) (q : Past E F) → q.state.out_air ≡ [] → slice_get q.state.out.sender.held k ≡ Some e →
        (sent_over c d k q).state ≡ (hear c d (Ok (Laden (reach q.state.back.receiver) (q.state.out.sender.low + k) e)) [] q.state).state
    sent_over_state k e q a h = rw (h, a, lt-leb T.capacity 0 room)

    -- one held element more is sent and heard, and then all of them
    sent_step : T.window ≤ 32 → (k : ℕ) (s : State E F) (q : Past E F) → s.out.sender.low ≤ s.out.receiver.base →
        length s.out.sender.held ≤ T.window → k < length s.out.sender.held → Sent T.window k s q.state → Sent T.window (suc k) s (sent_over c d k q).state
    sent_step narrow k s q b h l g =
        let x = nth_some k s.out.sender.held l in
        let number = s.out.sender.low + k in
        let ack = reach s.back.receiver in
        let e = sent_over_state k x.0 q (ap (λ z. z.out_air) g.is) (ap (λ z. slice_get z.out.sender.held k) g.is ∙ x.1) in
        record {
          receiver = hearing endless T.window (Laden ack number x.0) g.receiver;
          sender = acknowledged endless ack g.sender;
          is = e ∙ ap (λ z. (hear c d (Ok (Laden (reach z.back.receiver) (z.out.sender.low + k) x.0)) [] z).state) g.is;
          base = g.base;
          wide = length_filled g.receiver.slots (slot_for endless g.receiver.base T.window number) x.0 ∙ g.wide;
          reached = omega (arith, heard_reach T.window ack number x.0 g.receiver narrow g.reached (omega (arith, g.base)) g.wide);
        }

    module _ (narrow : T.window ≤ 32) (p : Past E F) (g : StreamInv T.window p.state.out p.out)
        (b : p.state.out.sender.low ≤ p.state.out.receiver.base) (a : p.state.out_air ≡ []) where
      sent_all : (k : ℕ) → k ≤ length p.state.out.sender.held → Sent T.window k p.state (up_to k (sent_over c d) p).state
      sent_all zero l = record {
        receiver = p.state.out.receiver;
        sender = p.state.back.sender;
        is = ap (λ z. record p.state { out_air = z }) a;
        base = refl;
        wide = g.wide;
        reached = omega (arith, g.told);
      }
      sent_all (suc k) l = sent_step narrow k p.state (up_to k (sent_over c d) p) b g.room l (sent_all k (omega arith))

      pub flushed_over : Flushed p (flushed c d p)
      flushed_over =
          let s = sent_all (length p.state.out.sender.held) (omega arith) in
          let x = all_on T.window s.receiver.base s.receiver.slots (omega (arith, free_le s.receiver.slots, s.wide)) in
          let e = all_passed_state (all_sent c d p) ∙ ap all_moved s.is in
          record {
            out_air = ap (λ z. z.out_air) e;
            back_air = ap (λ z. z.back_air) e;
            base = omega (arith, ap (λ z. z.out.receiver.base) e, x.0, s.reached, g.counted);
            same = ap (λ z. z.back.receiver) e;
          }

    -- a bare frame is sent and heard: the other end knows what was received here
    pub reported_told : (q : Past E F) → StreamInv U.window q.state.back q.back → q.state.out_air ≡ [] → (reported c d q).state ≡ told q.state
    reported_told q g a =
        let s = q.state.back in
        let i : reach s.receiver - s.sender.low ≤ length s.sender.held = omega (arith, free_fits q.back.accepted s.receiver.base s.receiver.slots g.fits g.within) in
        rw (a, lt-leb T.capacity 0 room, ack_ahead s.sender (reach s.receiver) g.told i)
