-- After settle a link whose numbers never start over is at rest.
use Rattle.std.proofs.Common.{◌≡◌, ℕ, suc, ◌≤◌, List, [], ◌∷◌, length, replicate, Some, None, Option, refl, ap, ◌∙◌, arith, take_all}
use Rattle.std.proofs.lemmas.List.{nil_from_length}
use Rattle.air.proofs.Nth.{nth_within}
use Rattle.protocol.specs.Windows.{first_free}
use Rattle.protocol.specs.Machine.{Stream, turned}
use Rattle.protocol.specs.Histories.{Log, turned_past, from_other_end, emptied, all_passed, reported, drained, flushed, settled}
use Rattle.protocol.proofs.Plain.{Shape, Setting, Past, unending}
use Rattle.protocol.proofs.Slots.{Fits, free_le}
use Rattle.protocol.proofs.Streams.{StreamInv}
use Rattle.protocol.proofs.Kept.{LinkInv, Windows}
use Rattle.protocol.proofs.Bridge.{turned_halves, emptied_same, drained_same, flushed_same, both_flushed_same, reported_same, settled_same}
use Rattle.protocol.proofs.Still.{Later, later_self, later_keeps}
use Rattle.protocol.proofs.Settle.{all_on, told, emptied_airs, all_moved, all_passed_state, flushed_over, reported_told}

-- a stream of which all is passed and acknowledged, and its log
abbrev whole : {E : Type 0} → ℕ → List E → Stream E
whole n accepted = record { sender = record { low = length accepted; held = [] }; receiver = record { base = length accepted; slots = replicate n None } }

abbrev all_passed_log : {E : Type 0} → List E → Log E
all_passed_log accepted = record { accepted = accepted; passed = accepted }

-- a link at rest
abbrev pub resting : {E F : Type 0} → ℕ → ℕ → List E → List F → ℕ → Past E F
resting n n' accepted back_accepted bytes_refused = record {
  state = record { out = whole n accepted; back = whole n' back_accepted; out_air = []; back_air = [] };
  out = all_passed_log accepted;
  back = all_passed_log back_accepted;
  bytes_refused = bytes_refused;
}

-- no slot is filled from the number on that will be accepted next
none_left : {E : Type 0} (accepted : List E) (b : ℕ) (xs : List (Option E)) → Fits accepted b xs → length accepted ≤ b → xs ≡ replicate (length xs) None
none_left accepted b [] f h = refl
none_left accepted b (None ∷ xs) f h = ap (λ r. None ∷ r) (none_left accepted (suc b) xs f (omega arith))
none_left accepted b (Some e ∷ xs) f h = absurd (omega (arith, nth_within accepted b e f.0))

-- a stream whose ends have both reached all that was accepted, which is xs
rests : {E : Type 0} {n : ℕ} {s : Stream E} {log : Log E} {xs : List E} → StreamInv n s log → log.accepted ≡ xs →
    length xs ≤ s.receiver.base → length xs ≤ s.sender.low → (s ≡ whole n xs) × (log ≡ all_passed_log xs)
rests {n = n} {s = s} {log = log} {xs = xs} g e b l =
    let t = ap length e in
    let low : s.sender.low ≡ length xs = omega arith in
    let held : s.sender.held ≡ [] = nil_from_length s.sender.held (omega arith) in
    let base : s.receiver.base ≡ length xs = omega arith in
    let all : length log.accepted ≤ s.receiver.base = omega arith in
    let slots = none_left log.accepted s.receiver.base s.receiver.slots g.fits all ∙ ap (λ k. replicate k None) g.wide in
    let passed = g.passed ∙ take_all s.receiver.base log.accepted all ∙ e in (
      λ i. record { sender = record { low = low i; held = held i }; receiver = record { base = base i; slots = slots i } },
      λ i. record { accepted = e i; passed = passed i },
    )

-- nothing waits, and what was placed in sequence is passed
record Drained {E F : Type 0} (q : Past E F) : Type 0 where
  out_air : q.state.out_air ≡ []
  back_air : q.state.back_air ≡ []
  free : first_free q.state.out.receiver.slots ≡ 0
  back_free : first_free q.state.back.receiver.slots ≡ 0

-- nothing waits, and each receiver has got what p has accepted
record Passed {E F : Type 0} (p q : Past E F) : Type 0 where
  out_air : q.state.out_air ≡ []
  back_air : q.state.back_air ≡ []
  base : length p.out.accepted ≤ q.state.out.receiver.base
  back_base : length p.back.accepted ≤ q.state.back.receiver.base

-- and each sender knows it
record Told {E F : Type 0} (p q : Past E F) : Type 0 where
  passed : Passed p q
  low : length p.out.accepted ≤ q.state.out.sender.low
  back_low : length p.back.accepted ≤ q.state.back.sender.low

module _ {E F : Type 0} {T : Shape E} {U : Shape F} (w : Windows T U) (p : Past E F) where
  abbrev c : Setting E
  c = unending T

  abbrev d : Setting F
  d = unending U

  -- the airs are emptied, and both ends pass
  all_drained : (q : Past E F) → Later T U p q → Drained (drained c d q)
  all_drained q h =
      let k = later_keeps w p in
      let p1 = emptied c d q in
      let p2 = turned_past (emptied d c (turned_past p1)) in
      let p3 = turned_past (all_passed d c (turned_past p2)) in
      let a1 = emptied_airs T U q in
      let a2 = emptied_airs U T (turned_past p1) in
      let e : (drained c d q).state ≡ all_moved T U (turned (all_moved U T (turned p2.state))) =
      all_passed_state T U p3 ∙ ap (λ z. all_moved T U (turned z)) (all_passed_state U T (turned_past p2)) in
      let h2 : Later T U p p2 = (emptied_same (turned_halves k)).kept (turned_past p1) ((emptied_same k).kept q h) in
      let r = p2.state.out.receiver in
      let r' = p2.state.back.receiver in
      record {
        out_air = ap (λ z. z.out_air) e ∙ a2.1 ∙ a1.0;
        back_air = ap (λ z. z.back_air) e ∙ a2.0;
        free = ap (λ z. first_free z.out.receiver.slots) e ∙ (all_on T.window r.base r.slots (omega (arith, h2.inv.out.wide, free_le r.slots))).1;
        back_free = ap (λ z. first_free z.back.receiver.slots) e ∙ (all_on U.window r'.base r'.slots (omega (arith, h2.inv.back.wide, free_le r'.slots))).1;
      }

  module _ (room : 1 ≤ T.capacity) (back_room : 1 ≤ U.capacity) where
    -- what is held is sent, heard and passed, each way
    both_flushed : (q : Past E F) → Later T U p q → Drained q → Passed p (from_other_end flushed c d (flushed c d q))
    both_flushed q h a =
        let q1 = flushed c d q in
        let h1 = (flushed_same (later_keeps w p)).kept q h in
        let f = flushed_over T U room w.narrow q h.inv.out (omega (arith, h.inv.out.told, a.free)) a.out_air in
        let free : first_free q1.state.back.receiver.slots ≡ 0 = ap (λ r. first_free r.slots) f.same ∙ a.back_free in
        let g = flushed_over U T back_room w.back_narrow (turned_past q1) h1.inv.back (omega (arith, h1.inv.back.told, free)) (f.back_air ∙ a.back_air) in
        record {
          out_air = g.back_air ∙ f.out_air;
          back_air = g.out_air;
          base = omega (arith, ap (λ r. r.base) g.same, f.base, ap length h.accepted);
          back_base = omega (arith, g.base, ap length h1.back_accepted);
        }

    -- what was received is reported, each way
    both_reported : (q : Past E F) → Later T U p q → Passed p q → Told p (from_other_end reported c d (reported c d q))
    both_reported q h a =
        let q1 = reported c d q in
        let h1 = (reported_same (later_keeps w p)).kept q h in
        let f = reported_told T U room q h.inv.back a.out_air in
        let g = reported_told U T back_room (turned_past q1) h1.inv.out (ap (λ z. z.back_air) f ∙ a.back_air) in
        let e : turned (reported d c (turned_past q1)).state ≡ turned (told (turned (told q.state))) = ap turned (g ∙ ap (λ z. told (turned z)) f) in
        record {
          passed = record {
            out_air = ap (λ z. z.out_air) e;
            back_air = ap (λ z. z.back_air) e;
            base = omega (arith, ap (λ z. z.out.receiver.base) e, a.base);
            back_base = omega (arith, ap (λ z. z.back.receiver.base) e, a.back_base);
          };
          low = omega (arith, ap (λ z. z.out.sender.low) e, a.base);
          back_low = omega (arith, ap (λ z. z.back.sender.low) e, a.back_base);
        }

    -- so it is after settle
    all_told : LinkInv T U p → Told p (settled c d p)
    all_told i =
        let k = later_keeps w p in
        let h1 = (drained_same k).kept p (later_self i) in
        let h2 = (both_flushed_same k).kept (drained c d p) h1 in
        both_reported (from_other_end flushed c d (flushed c d (drained c d p))) h2 (both_flushed (drained c d p) h1 (all_drained p (later_self i)))

    -- nothing is left to do
    at_rest : (q : Past E F) → Later T U p q → Told p q → q ≡ resting T.window U.window p.out.accepted p.back.accepted q.bytes_refused
    at_rest q h a =
        let x = rests h.inv.out h.accepted a.passed.base a.low in
        let y = rests h.inv.back h.back_accepted a.passed.back_base a.back_low in
        λ i. record {
          state = record { out = x.0 i; back = y.0 i; out_air = a.passed.out_air i; back_air = a.passed.back_air i };
          out = x.1 i;
          back = y.1 i;
          bytes_refused = q.bytes_refused;
        }

  -- settle leaves nothing to do
  pub settle_rests : 1 ≤ T.capacity → 1 ≤ U.capacity → LinkInv T U p →
      settled c d p ≡ resting T.window U.window p.out.accepted p.back.accepted (settled c d p).bytes_refused
  settle_rests room back_room i =
      at_rest room back_room (settled c d p) ((settled_same (later_keeps w p)).kept p (later_self i)) (all_told room back_room i)
