-- A tight air goes through each step as the air below does.
use Rattle.std.proofs.Common.{◌≡◌, ℕ, zero, suc, ◌+◌, ◌<◌, ◌≤◌, min, false, eqb, List, [], ◌∷◌, map, None, refl, ap, ◌∙◌, ap₂, arith}
use Rattle.std.proofs.lemmas.List.{length-map}
use Rattle.std.proofs.lemmas.Bool.{eqb-false, ne_eqb, or_from, or_parts}
use Rattle.std.proofs.lemmas.Bool.Decides.{nat_tests}
use Rattle.std.specs.List.{slice_get}
use Rattle.air.specs.Waiting.{Waiting, AirState, barred, lost, overtaken, repeated, taken, with_waiting}
use Rattle.air.specs.Steps.{Bytes, answer_refusal, bytes_of}
use Rattle.air.proofs.Places.{map-without}
use Rattle.air.proofs.StepLaws.{answer_free}
use Rattle.tight.specs.Tightened.{capped, tightened}

module _ {W : Type 0} where
  -- a frame that does not bar under the smaller bound is below it, and nor do those behind it bar
  pub unbarred : (low k : ℕ) (w : Waiting W) (ws : List (Waiting W)) → barred low (suc k) (map (capped low) (w ∷ ws)) ≡ false → (w.count < low) × (barred low k (map (capped low) ws) ≡ false)
  unbarred low k w ws free =
      let parts = or_parts (eqb (min w.count low) low) (barred low k (map (capped low) ws)) free in
      let other = eqb-false (min w.count low) low parts.0 in
      (omega arith, parts.1)

  -- what does not bar under the smaller bound does not bar below
  free_below : (low own k : ℕ) (ws : List (Waiting W)) → low ≤ own → barred low k (map (capped low) ws) ≡ false → barred own k ws ≡ false
  free_below low own zero ws less free = refl
  free_below low own (suc k) [] less free = refl
  free_below low own (suc k) (w ∷ ws) less free =
      let parts = unbarred low k w ws free in
      or_from (eqb w.count own) (barred own k ws) (ne_eqb w.count own (λ same. omega arith)) (free_below low own k ws less parts.1)

  -- so its count is not capped as it is overtaken
  map-overtaken : (low k : ℕ) (ws : List (Waiting W)) → barred low k (map (capped low) ws) ≡ false → map (capped low) (overtaken k ws) ≡ overtaken k (map (capped low) ws)
  map-overtaken low zero ws free = refl
  map-overtaken low (suc k) [] free = refl
  map-overtaken low (suc k) (w ∷ ws) free =
      let parts = unbarred low k w ws free in
      let one : min (w.count + 1) low ≡ min w.count low + 1 = omega arith in
      ap₂ (λ n r. record { frame = w.frame; count = n } ∷ r) one (map-overtaken low k ws parts.1)

-- a cap leaves the bytes as they are
pub bytes_capped : (low k : ℕ) (ws : List (Waiting Bytes)) → bytes_of (slice_get (map (capped low) ws) k) ≡ bytes_of (slice_get ws k)
bytes_capped low k [] = refl
bytes_capped low zero (w ∷ ws) = refl
bytes_capped low (suc k) (w ∷ ws) = bytes_capped low k ws

-- a frame that is lost
pub lost_tight : (given k : ℕ) (a : AirState Bytes) → tightened given (lost k a) ≡ lost k (tightened given a)
lost_tight given k a = ap (with_waiting (tightened given a)) (map-without (capped (min given a.bound)) k a.waiting)

-- a call that answers frame k, where the tight air does not refuse it
module _ (given k : ℕ) (a : AirState Bytes) (free : answer_refusal k (tightened given a) ≡ None) where
  abbrev low : ℕ
  low = min given a.bound

  not_barred : barred low k (tightened given a).waiting ≡ false
  not_barred = (answer_free k (tightened given a) free).1

  -- then the air below does not refuse it either
  pub free_there : answer_refusal k a ≡ None
  free_there =
      let n = length-map a.waiting (capped low) in
      let at = (answer_free k (tightened given a) free).0 in
      let passed = free_below low a.bound k a.waiting (omega arith) not_barred in
      grind (arith, nat_tests)

  -- and what it does there is the same
  pub repeated_tight : tightened given (repeated k a) ≡ repeated k (tightened given a)
  repeated_tight = ap (with_waiting (tightened given a)) (map-overtaken low k a.waiting not_barred)

  pub taken_tight : tightened given (taken k a) ≡ taken k (tightened given a)
  taken_tight = lost_tight given k (repeated k a) ∙ ap (lost k) repeated_tight
