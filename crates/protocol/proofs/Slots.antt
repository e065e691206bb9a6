-- The slots of a receiver: what they hold, how many are filled from a number on, and the first free one.
use Rattle.std.proofs.Common.{◌≡◌, ℕ, zero, suc, ◌+◌, ◌-◌, ◌<◌, ◌≤◌, List, [], ◌∷◌, ◌++◌, length, take, drop, set, replicate, Some, None, Option, refl, ap, ◌∙◌, inl, inr, zero-add, add-zero, add-suc, suc-add, arith}
use Rattle.std.specs.List.{slice_get}
use Rattle.std.proofs.Math.Seq.{take-suc}
use Rattle.std.proofs.lemmas.Option.{get_or_from_slice_get, slice_get_cases}
use Rattle.air.proofs.Nth.{nth_within, nth_push}
use Rattle.protocol.specs.Windows.{first_free}

module _ {A : Type 0} where
  pub nth_drop : (k n : ℕ) (xs : List A) → slice_get (drop n xs) k ≡ slice_get xs (n + k)
  nth_drop k zero xs = rw zero-add
  nth_drop k (suc n) [] = refl
  nth_drop k (suc n) (x ∷ xs) = rw suc-add (nth_drop k n xs)

  pub nth_some : (k : ℕ) (xs : List A) → k < length xs → (x : A) × (slice_get xs k ≡ Some x)
  nth_some k xs h = elim (slice_get_cases xs k).1 [ inl c ↦ (c.0, c.2) | inr c ↦ absurd (omega (arith, c.0)) ]

  pub take_nth : (k : ℕ) (xs : List A) (x : A) → slice_get xs k ≡ Some x → take (suc k) xs ≡ take k xs ++ (x ∷ [])
  take_nth k xs x e = take-suc xs k x (nth_within xs k x e) ∙ ap (λ y. take k xs ++ (y ∷ [])) (get_or_from_slice_get xs k x x e)

module _ {E : Type 0} where
  -- each filled slot holds what was accepted under its number; the first slot's number is b
  abbrev pub Fits : List E → ℕ → List (Option E) → Type 0
  Fits accepted b [] = Unit {0}
  Fits accepted b (None ∷ xs) = Fits accepted (suc b) xs
  Fits accepted b (Some e ∷ xs) = (slice_get accepted b ≡ Some e) × Fits accepted (suc b) xs

  -- how many slots whose number is y or more are filled
  abbrev pub above : ℕ → ℕ → List (Option E) → ℕ
  above y b [] = 0
  above y b (None ∷ xs) = above y (suc b) xs
  above y b (Some e ∷ xs) = ((suc b - y) - (b - y)) + above y (suc b) xs

  pub fits_none : (accepted : List E) (b n : ℕ) → Fits accepted b (replicate n None)
  fits_none accepted b zero = tt
  fits_none accepted b (suc n) = fits_none accepted (suc b) n

  pub fits_more : (accepted : List E) (y : E) (b : ℕ) (xs : List (Option E)) → Fits accepted b xs → Fits (accepted ++ (y ∷ [])) b xs
  fits_more accepted y b [] h = tt
  fits_more accepted y b (None ∷ xs) h = fits_more accepted y (suc b) xs h
  fits_more accepted y b (Some e ∷ xs) h = (nth_push accepted y e b h.0, fits_more accepted y (suc b) xs h.1)

  pub fits_set : (accepted : List E) (b : ℕ) (xs : List (Option E)) (d : ℕ) (e : E) → Fits accepted b xs → slice_get accepted (b + d) ≡ Some e → Fits accepted b (set xs d (Some e))
  fits_set accepted b [] d e h q = tt
  fits_set accepted b (None ∷ xs) zero e h q = (rw add-zero at q, h)
  fits_set accepted b (Some x ∷ xs) zero e h q = (rw add-zero at q, h.1)
  fits_set accepted b (None ∷ xs) (suc d) e h q = fits_set accepted (suc b) xs d e h (rw (suc-add, ← add-suc) q)
  fits_set accepted b (Some x ∷ xs) (suc d) e h q = (h.0, fits_set accepted (suc b) xs d e h.1 (rw (suc-add, ← add-suc) q))

  pub fits_push : (accepted : List E) (b : ℕ) (xs : List (Option E)) → Fits accepted b xs → Fits accepted b (xs ++ (None ∷ []))
  fits_push accepted b [] h = tt
  fits_push accepted b (None ∷ xs) h = fits_push accepted (suc b) xs h
  fits_push accepted b (Some e ∷ xs) h = (h.0, fits_push accepted (suc b) xs h.1)

  -- one slot more is filled: at most one more from y on, and none if its number is below y
  pub above_set : (y b : ℕ) (xs : List (Option E)) (d : ℕ) (e : E) → above y b (set xs d (Some e)) ≤ above y b xs + 1
  above_set y b [] d e = omega arith
  above_set y b (None ∷ xs) zero e = omega arith
  above_set y b (Some x ∷ xs) zero e = omega arith
  above_set y b (None ∷ xs) (suc d) e = above_set y (suc b) xs d e
  above_set y b (Some x ∷ xs) (suc d) e = omega (arith, above_set y (suc b) xs d e)

  pub above_set_below : (y b : ℕ) (xs : List (Option E)) (d : ℕ) (e : E) → b + d < y → above y b (set xs d (Some e)) ≡ above y b xs
  above_set_below y b [] d e h = refl
  above_set_below y b (None ∷ xs) zero e h = omega arith
  above_set_below y b (Some x ∷ xs) zero e h = refl
  above_set_below y b (None ∷ xs) (suc d) e h = above_set_below y (suc b) xs d e (omega arith)
  above_set_below y b (Some x ∷ xs) (suc d) e h = omega (arith, above_set_below y (suc b) xs d e (omega arith))

  pub above_push : (y b : ℕ) (xs : List (Option E)) → above y b (xs ++ (None ∷ [])) ≡ above y b xs
  above_push y b [] = refl
  above_push y b (None ∷ xs) = above_push y (suc b) xs
  above_push y b (Some e ∷ xs) = omega (arith, above_push y (suc b) xs)

  -- no slot has a number that nothing was accepted under
  pub above_none : (accepted : List E) (y b : ℕ) (xs : List (Option E)) → Fits accepted b xs → length accepted ≤ y → above y b xs ≡ 0
  above_none accepted y b [] h l = refl
  above_none accepted y b (None ∷ xs) h l = above_none accepted y (suc b) xs h l
  above_none accepted y b (Some e ∷ xs) h l = omega (arith, above_none accepted y (suc b) xs h.1 l, nth_within accepted b e h.0)

  pub free_set : (xs : List (Option E)) (d : ℕ) (e : E) → first_free xs ≤ first_free (set xs d (Some e))
  free_set [] d e = omega arith
  free_set (None ∷ xs) zero e = omega arith
  free_set (Some x ∷ xs) zero e = omega arith
  free_set (None ∷ xs) (suc d) e = omega arith
  free_set (Some x ∷ xs) (suc d) e = omega (arith, free_set xs d e)

  pub free_push : (xs : List (Option E)) → first_free (xs ++ (None ∷ [])) ≡ first_free xs
  free_push [] = refl
  free_push (None ∷ xs) = refl
  free_push (Some e ∷ xs) = ap suc (free_push xs)

  -- the first free slot's number is at most the next that will be accepted
  pub free_fits : (accepted : List E) (b : ℕ) (xs : List (Option E)) → Fits accepted b xs → b ≤ length accepted → b + first_free xs ≤ length accepted
  free_fits accepted b [] h l = omega arith
  free_fits accepted b (None ∷ xs) h l = omega arith
  free_fits accepted b (Some e ∷ xs) h l = omega (arith, free_fits accepted (suc b) xs h.1 (nth_within accepted b e h.0))

  pub free_le : (xs : List (Option E)) → first_free xs ≤ length xs
  free_le [] = omega arith
  free_le (None ∷ xs) = omega arith
  free_le (Some e ∷ xs) = omega (arith, free_le xs)
