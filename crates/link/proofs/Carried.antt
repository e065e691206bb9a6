-- Frames between an end and an air: what the code writes and puts, takes and hears, is what the machine says.
use Rattle.std.proofs.Common.{◌≡◌, ℕ, [], get_or, ◌<◌, ◌≤◌, List, length, take, drop, Some, None, Ok, Err, Option, Result, refl, sym, ap, ◌∙◌, arith}
use Rattle.std.specs.List.{slice_get}
use Rattle.std.specs.Prelude.{option_map}
use Rattle.air.proofs.Nth.{none_some, some_same}
use Rattle.air.proofs.StepLaws.{answer_free}
use Rattle.std.proofs.lemmas.Option.{slice_get-get_or}
use Rattle.std.proofs.Math.Seq.{take-append_seam}
use Rattle.std.proofs.lemmas.Bool.Decides.{nat_tests}
use Rattle.refusal.specs.declared.Refusal.{Refusal}
use Rattle.octets.specs.Areas.{front, written_unless}
use Rattle.air.specs.Waiting.{AirState, Waiting, fresh, joined as behind, repeated, taken, with_waiting}
use Rattle.air.specs.Steps.{Bytes, answer_refusal, answer_unless, bytes_of as frame_bytes, frame_at, put_refusal, put_step, repeat_step, room_refusal, step_unless, take_step}
use Rattle.element.specs.Kinds.{Coding}
use Rattle.frame.specs.Writes.{bytes_of, refusal_of, write_into}
use Rattle.frame.specs.declared.Frame.{Frame}
use Rattle.frame.specs.declared.Frame.TheVariants.{Laden}
use Rattle.protocol.specs.Machine.{Setting, Reply, hear, hear_at, hear_waiting, put, send_held, step, act_unless}
use Rattle.protocol.specs.Machine.Act.{bare, deliver, repeat, send}
use Rattle.protocol.specs.Windows.{cyclic, next_free}
use Rattle.window.specs.Seen.{receiver_state, sender_state}
use Rattle.link.specs.Acts.{ActedOn, Acts, Hears, Puts}
use Rattle.link.specs.Ends.{EndSettings, EndState, bare_frame, end_state, laden_frame, facing, format_by, link_of, sending, settings_of}
use Rattle.link.specs.Replies.{done_reply}
use Rattle.link.specs.declared.end.End.{End}

-- what stands in the front of an area after it was written
pub written : (refusal : Option Refusal) (bs area new : Bytes) (n : ℕ) → (Ok n, new) ≡ written_unless refusal bs area → (refusal ≡ None) × (n ≡ length bs) × (take n new ≡ bs)
written None bs area new n e =
    let size : n ≡ length bs = (let f = ap (λ p. p.0) e in cc) in
    let full : new ≡ front bs area = ap (λ p. p.1) e in
    (refl, size, rw (size, full) (take-append_seam bs (drop (length bs) area)))
written (Some r) bs area new n e = absurd (let f = ap (λ p. p.0) e in let z : ◌≡◌ {A = ℕ} 0 1 = cc in omega arith)

-- a frame of a right size joins an air that has room
pub put_joins : (bs : Bytes) (air air_after : AirState Bytes) (r : Result (Unit {0}) Refusal) → 1 ≤ length bs → length bs ≤ 32 → length air.waiting < air.capacity →
    (r, air_after) ≡ put_step bs air → (r ≡ Ok tt) × (air_after ≡ behind bs air)
put_joins bs air air_after r some few room e =
    let free : put_refusal bs air ≡ None = grind (arith, nat_tests) in
    let done = e ∙ ap (λ o. step_unless o (behind bs air) air) free in
    (ap (λ p. p.0) done, ap (λ p. p.1) done)

-- so a frame that was written, and put into an air that has room, is put as the machine puts it
pub puts : {E F : Type 0} (kind : Coding E) (s : EndSettings) (frame : Frame E) (air air_after : AirState Bytes) (n : ℕ) (area new : Bytes) (r : Result (Unit {0}) Refusal) →
    length air.waiting < air.capacity → 1 ≤ n → n ≤ 32 → (Ok n, new) ≡ write_into kind (format_by s) frame area →
    (r, air_after) ≡ put_step (take n new) air → Puts {F = F} kind s frame air air_after (done_reply r)
puts kind s frame air air_after n area new r room some few w p =
    let bs = bytes_of kind (format_by s) frame in
    let fit = written (refusal_of kind (format_by s) frame) bs area new n w in
    let step = put_joins bs air air_after r (omega (arith, fit.1)) (omega (arith, fit.1)) room (p ∙ ap (λ xs. put_step xs air) fit.2) in
    let free : room_refusal air ≡ None = grind (arith, nat_tests) in
    record { steps = λ near other back_air. rw (step.0, step.1, free, fit.0) }

-- what an air hands over: the frame at that place, and what is left
pub handed_over : (k n : ℕ) (air left air_after : AirState Bytes) (area new : Bytes) → (Ok n, air_after, new) ≡ answer_unless (answer_refusal k air) (frame_at k air) left air area →
    (answer_refusal k air ≡ None) × (air_after ≡ left) × (take n new ≡ frame_at k air)
handed_over k n air left air_after area new = by (answer_refusal k air)
  where
    by : (refusal : Option Refusal) → (Ok n, air_after, new) ≡ answer_unless refusal (frame_at k air) left air area → (refusal ≡ None) × (air_after ≡ left) × (take n new ≡ frame_at k air)
    by None e = (refl, ap (λ p. p.1) e, (written None (frame_at k air) area new n (ap (λ p. (p.0, p.2)) e)).2)
    by (Some r) e = absurd (let f = ap (λ p. p.0) e in let z : ◌≡◌ {A = ℕ} 0 1 = cc in omega arith)

module _ {E F : Type 0} (kind : Coding E) (heard_kind : Coding F) where
  -- an end that acknowledges what it has heard
  pub bared : (e : End E F) (air air_after : AirState Bytes) (frame : Frame E) (r : Reply F) → frame ≡ bare_frame (settings_of e) (end_state e) →
      Puts kind (settings_of e) frame air air_after r → Acts kind heard_kind e e air air_after bare r
  bared e air air_after frame r is p = record {
    settings = refl;
    steps = λ other back_air.
        p.steps (end_state e) other back_air
        ∙ ap (λ f. put (sending kind (settings_of e) air) f (link_of (end_state e) other air back_air)) is;
  }

  -- and that sends what it holds at place k
  pub sent : (e : End E F) (air air_after : AirState Bytes) (k : ℕ) (frame : Frame E) (r : Reply F) →
      laden_frame (settings_of e) k (end_state e) ≡ Some frame →
      Puts kind (settings_of e) frame air air_after r → Acts kind heard_kind e e air air_after (send k) r
  sent e air air_after k frame r held p = record {
    settings = refl;
    steps = λ other back_air. by other back_air (slice_get (sender_state e.sender).held k) held;
  }
    where
      laden : E → Frame E
      laden x = Laden (next_free (cyclic e.receiver.cycle.length) (receiver_state e.receiver)) ((cyclic e.sender.cycle.length).after e.sender.low k) x

      by : (other : EndState F E) (back_air : AirState Bytes) (x : Option E) → option_map laden x ≡ Some frame →
          let s = settings_of e in
          step (link_of (end_state e) other air_after back_air) r
          ≡ send_held (sending kind s air) (sending heard_kind (facing s) back_air) k x (link_of (end_state e) other air back_air)
      by other back_air None h = absurd (none_some frame h)
      by other back_air (Some x) h =
          p.steps (end_state e) other back_air
          ∙ ap (λ f. put (sending kind (settings_of e) air) f (link_of (end_state e) other air back_air)) (sym (some_same (laden x) frame h))

  -- what an end hears does not depend on what waits in the air
  heard_alike : (c : Setting F Bytes) (d : Setting E Bytes) (x : Result (Frame F) Refusal) (rest : List (Waiting Bytes)) (near : EndState F E) (far : EndState E F) (a b back_air : AirState Bytes) →
      hear c d x rest (link_of near far a back_air) ≡ hear c d x rest (link_of near far b back_air)
  heard_alike c d (Ok f) rest near far a b back_air = refl
  heard_alike c d (Err r) rest near far a b back_air = refl

  -- an end that hears what an air hands over at place k, where these frames are left
  pub heard_at : (e e_after : End E F) (air air_after : AirState Bytes) (left : List (Waiting Bytes)) (k n : ℕ) (area new : Bytes) (r : Reply E) →
      (Ok n, air_after, new) ≡ answer_unless (answer_refusal k air) (frame_at k air) (with_waiting air left) air area → Hears kind heard_kind e e_after (take n new) r →
      (other : EndState F E) (back_air : AirState Bytes) → let s = settings_of e in
      step (link_of other (end_state e_after) air_after back_air) r ≡ hear_at (sending heard_kind (facing s) air) (sending kind s back_air) k left (link_of other (end_state e) air back_air)
  heard_at e e_after air air_after left k n area new r a h other back_air =
      let s = settings_of e in
      let c = sending heard_kind (facing s) air in
      let d = sending kind s back_air in
      let t = handed_over k n air (with_waiting air left) air_after area new a in
      let w : Waiting Bytes = get_or air.waiting k (fresh []) in
      let found = slice_get-get_or air.waiting k (fresh []) (answer_free k air t.0).0 in
      let before = link_of other (end_state e) air back_air in
      ap (λ a. step (link_of other (end_state e_after) a back_air) r) t.1
      ∙ h.steps other (with_waiting air left) back_air
      ∙ heard_alike c d (c.codec.read (take n new)) left other (end_state e) (with_waiting air left) air back_air
      ∙ ap (λ bs. hear c d (c.codec.read bs) left before) (t.2 ∙ ap frame_bytes found)
      ∙ sym (ap (λ x. hear_waiting c d x left before) found)
      ∙ sym (ap (λ o. act_unless o (hear_waiting c d (slice_get air.waiting k) left before) before) t.0)

  -- so it takes the machine's step as it delivers
  pub delivered : (e e_after : End E F) (air air_after : AirState Bytes) (k n : ℕ) (area new : Bytes) (r : Reply E) →
      (Ok n, air_after, new) ≡ take_step k air area → Hears kind heard_kind e e_after (take n new) r → ActedOn kind heard_kind e e_after air air_after (deliver k) r
  delivered e e_after air air_after k n area new r a h =
      record { settings = h.settings; steps = λ other back_air. heard_at e e_after air air_after (taken k air).waiting k n area new r a h other back_air }

  -- and as it repeats
  pub repeats : (e e_after : End E F) (air air_after : AirState Bytes) (k n : ℕ) (area new : Bytes) (r : Reply E) →
      (Ok n, air_after, new) ≡ repeat_step k air area → Hears kind heard_kind e e_after (take n new) r → ActedOn kind heard_kind e e_after air air_after (repeat k) r
  repeats e e_after air air_after k n area new r a h =
      record { settings = h.settings; steps = λ other back_air. heard_at e e_after air air_after (repeated k air).waiting k n area new r a h other back_air }
