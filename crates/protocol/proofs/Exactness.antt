-- The limits on a cycle are exact, and so every link that is drafted within them keeps the whole promise.
use Rattle.std.proofs.Common.{◌≡◌, ℕ, ◌+◌, ◌<◌, ◌≤◌, ⊎_elim, min, List, arith}
use Rattle.std.proofs.lemmas.Bool.{cases_lt}
use Rattle.protocol.specs.declared.terms.Terms.{Terms}
use Rattle.protocol.specs.Drafts.{Drafted, InLimits, least_cycle, longest_cycle}
use Rattle.protocol.specs.Machine.{Stream}
use Rattle.protocol.specs.Histories.{Log, Call}
use Rattle.protocol.specs.Histories as histories
use Rattle.protocol.specs.Delivery.{InStep, Delivers}
use Rattle.protocol.specs.Promises.{Direction, Faithful, AirsAllow, Exact, AlwaysPromises, at_cycle, past}
use Rattle.protocol.proofs.Bridge.{after_same}
use Rattle.protocol.proofs.Encoded.{shape, encodes}
use Rattle.protocol.proofs.Promised.{delivers}
use Rattle.protocol.proofs.Needed.{needed, back_needed}

-- what can be relied on of a codec does not depend on the cycle that is drafted
faithful_at : {E V : Type 0} {c : Direction E V} (m : ℕ) → Faithful c → Faithful (at_cycle m c)
faithful_at m x = record { element = x.element; element_valid = x.element_valid; written = x.written; writes = x.writes; reads = x.reads }

-- nor do the limits on the window and the bound
limits_at : {t : Terms} {other : ℕ} (m : ℕ) → least_cycle t.window t.bound other ≤ m → m ≤ longest_cycle → InLimits t other → InLimits (record t { cycle = m }) other
limits_at m l s h = record { window_least = h.window_least; window_most = h.window_most; bound_most = h.bound_most; cycle_least = l; cycle_most = s }

-- a limit is exact if the stream delivers within it, and is out of step after some history without it
exactly : {E F V W X : Type 0} (c : Direction E V) (d : Direction F W) (window least m : ℕ) (stream : histories.Past E F V W → Stream X) (log : histories.Past E F V W → Log X) →
    (least ≤ m → (h : List (Call E F)) → Delivers window (stream (past c d h)) (log (past c d h))) →
    (m < least → (h : List (Call E F)) × (InStep window (log (past c d h)) → ⊥)) → Exact c d window stream log (least ≤ m)
exactly c d window least m stream log enough short =
    let limit = λ (f : (h : List _) → InStep window (log (past c d h))).
    ⊎_elim (λ s. absurd ((short s).1 (f (short s).0))) (λ l. l) (cases_lt m least) in
    record {
      in_step = (limit, λ l h. (enough l h).in_step);
      delivers = (λ f. limit (λ h. (f h).in_step), enough);
      broken = λ f. ⊎_elim short (λ l. absurd (f l)) (cases_lt m least);
    }

module _ {E F V W : Type 0} {c : Direction E V} {d : Direction F W} (x : Faithful c) (y : Faithful d) (ok : Drafted c.terms d.terms) (allow : AirsAllow c d) (m : ℕ) (short : m ≤ longest_cycle) where
  own_bound_enough : min c.terms.bound c.own_bound ≡ c.terms.bound
  own_bound_enough = omega (arith, allow.own_bound_enough)

  back_own_bound_enough : min d.terms.bound d.own_bound ≡ d.terms.bound
  back_own_bound_enough = omega (arith, allow.back_own_bound_enough)

  exact : c.terms.window + 1 ≤ m → Exact (at_cycle m c) d c.terms.window (λ p. p.state.out) (λ p. p.out) (least_cycle c.terms.window c.terms.bound d.terms.bound ≤ m)
  exact wide =
      exactly (at_cycle m c) d c.terms.window _ m (λ p. p.state.out) (λ p. p.out)
      (λ l h. (delivers (faithful_at m x) y (record { out = limits_at m l short ok.out; back = ok.back }) h).out)
      (λ s.
      let b = encodes (faithful_at m x) y (record { some = omega arith; short = short; back_some = omega (arith, ok.back.cycle_least); back_short = ok.back.cycle_most }) in
      let q = needed (shape c) (shape d) m d.terms.cycle ok.out.window_least wide allow.room allow.back_room x.element x.element_valid
      (rw (own_bound_enough, back_own_bound_enough) s) in
      (q.0, λ step. q.1 (rw (after_same b q.0) at step)))

  back_exact : d.terms.window + 1 ≤ m → Exact c (at_cycle m d) d.terms.window (λ p. p.state.back) (λ p. p.back) (least_cycle d.terms.window d.terms.bound c.terms.bound ≤ m)
  back_exact wide =
      exactly c (at_cycle m d) d.terms.window _ m (λ p. p.state.back) (λ p. p.back)
      (λ l h. (delivers x (faithful_at m y) (record { out = ok.out; back = limits_at m l short ok.back }) h).back)
      (λ s.
      let b = encodes x (faithful_at m y) (record { some = omega (arith, ok.out.cycle_least); short = ok.out.cycle_most; back_some = omega arith; back_short = short }) in
      let q = back_needed (shape d) (shape c) m c.terms.cycle ok.back.window_least wide allow.back_room allow.room y.element y.element_valid
      (rw (back_own_bound_enough, own_bound_enough) s) in
      (q.0, λ step. q.1 (rw (after_same b q.0) at step)))

pub promises : {E F V W : Type 0} → AlwaysPromises E F V W
promises c d x y ok s = record {
  delivers = λ h e. delivers x y ok h;
  exact = λ allow m wide short. exact x y ok allow m short wide;
  back_exact = λ allow m wide short. back_exact x y ok allow m short wide;
}
