-- Laws of the calls of an air.
use Rattle.std.proofs.Common.{◌≡◌, ℕ, ◌<◌, ◌≤◌, false, length, Some, None, Ok, Err, Option, Result, refl, sym, ap, ◌∙◌, arith}
use Rattle.std.proofs.lemmas.Bool.Decides.{nat_tests}
use Rattle.std.proofs.lemmas.List.Edits.{length-remove}
use Rattle.std.specs.List.{remove, slice_get}
use Rattle.refusal.specs.declared.Refusal.{Refusal}
use Rattle.air.specs.Waiting.{AirState, barred, lost, repeated, with_waiting}
use Rattle.air.specs.Steps.{Bytes, answer_refusal, answer_unless, count_at, count_of, frame_at, lose_step, place_refusal, put_refusal, repeat_step, step_unless}
use Rattle.air.proofs.FineLaws.{length-overtaken}
use Rattle.air.proofs.Places.{without_is}

-- what is known where a call is not refused
pub put_free : (bs : Bytes) (a : AirState Bytes) → put_refusal bs a ≡ None → (1 ≤ length bs) × (length bs ≤ 32) × (length a.waiting < a.capacity)
put_free bs a free = (grind (arith, nat_tests), grind (arith, nat_tests), grind (arith, nat_tests))

module _ {W : Type 0} where
  pub place_free : (k : ℕ) (a : AirState W) → place_refusal k a ≡ None → k < length a.waiting
  place_free k a free = grind (arith, nat_tests)

  pub place_none : (k : ℕ) (a : AirState W) → k < length a.waiting → place_refusal k a ≡ None
  place_none k a at = grind (arith, nat_tests)

  pub answer_free : (k : ℕ) (a : AirState W) → answer_refusal k a ≡ None → (k < length a.waiting) × (barred a.bound k a.waiting ≡ false)
  answer_free k a free = (grind (arith, nat_tests), grind (arith, nat_tests))

-- to lose a frame that waits leaves one fewer, in the same air
pub lost_one : (k : ℕ) (a b : AirState Bytes) (r : Result (Unit {0}) Refusal) → k < length a.waiting → (r, b) ≡ lose_step k a → (b ≡ with_waiting a b.waiting) × (length b.waiting < length a.waiting)
lost_one k a b r at is =
    let e : b ≡ lost k a = ap (λ t. t.1) (is ∙ ap (λ o. step_unless o (lost k a) a) (place_none k a at)) in
    let one = length-remove a.waiting k at in
    let same : length b.waiting ≡ length (remove a.waiting k) = ap (λ c. length c.waiting) e ∙ ap length (without_is k a.waiting) in
    (e ∙ ap (λ c. with_waiting a c.waiting) (sym e), omega arith)

-- the count that is answered at a place where a frame waits
pub count_at_lem : (k : ℕ) (a : AirState Bytes) → k < length a.waiting → count_at k a ≡ Ok (count_of (slice_get a.waiting k))
count_at_lem k a at = grind (arith, nat_tests)

-- a frame that was repeated waits, so that it can be lost
pub repeated_waits : (k n : ℕ) (a b : AirState Bytes) (old new : Bytes) → (Ok n, b, new) ≡ repeat_step k a old → place_refusal k b ≡ None
repeated_waits k n a b old new = by (answer_refusal k a) refl
  where
    by : (free : Option Refusal) → answer_refusal k a ≡ free → (Ok n, b, new) ≡ answer_unless free (frame_at k a) (repeated k a) a old → place_refusal k b ≡ None
    by None is e =
        let at = (answer_free k a is).0 in
        let l = length-overtaken k a.waiting in
        rw (ap (λ t. t.1) e) (place_none k (repeated k a) (omega arith))
    by (Some refusal) is e = absurd (let f = ap (λ t. t.0) e in let z : ◌≡◌ {A = ℕ} 0 1 = cc in omega arith)

pub repeated_lost : (k n : ℕ) (a b d : AirState Bytes) (old new : Bytes) (refusal : Refusal) → (Ok n, b, new) ≡ repeat_step k a old → (Err refusal, d) ≡ lose_step k b → ⊥
repeated_lost k n a b d old new refusal e f =
    let g : lose_step k b ≡ (Ok tt, lost k b) = ap (λ r. step_unless r (lost k b) b) (repeated_waits k n a b old new e) in
    let h = ap (λ t. t.0) (f ∙ g) in
    let z : ◌≡◌ {A = ℕ} 0 1 = cc in
    omega arith
