-- What stands at a place of a list.
use Rattle.std.proofs.Common.{◌≡◌, ℕ, zero, suc, ◌<◌, List, [], ◌∷◌, ◌++◌, length, Some, None, refl, subst, arith}
use Rattle.std.specs.List.{AllByRecursion, slice_get}
use Rattle.air.specs.Waiting.{without}

module _ {X : Type 0} where
  pub none_some : (x : X) → None ≡ Some x → ⊥
  none_some x e = let z : ◌≡◌ {A = ℕ} 0 1 = cc in omega arith

  pub some_same : (x y : X) → Some x ≡ Some y → x ≡ y
  some_same x y e = cc

  -- a place where something stands is within the list
  pub nth_within : (xs : List X) (k : ℕ) (x : X) → slice_get xs k ≡ Some x → k < length xs
  nth_within [] k x e = absurd (none_some x e)
  nth_within (y ∷ xs) zero x e = omega arith
  nth_within (y ∷ xs) (suc k) x e = omega (arith, nth_within xs k x e)

  -- it still stands there when the list grows
  pub nth_push : (xs : List X) (y x : X) (k : ℕ) → slice_get xs k ≡ Some x → slice_get (xs ++ (y ∷ [])) k ≡ Some x
  nth_push [] y x k e = absurd (none_some x e)
  nth_push (z ∷ xs) y x zero e = e
  nth_push (z ∷ xs) y x (suc k) e = nth_push xs y x k e

  pub nth_last : (xs : List X) (y : X) → slice_get (xs ++ (y ∷ [])) (length xs) ≡ Some y
  nth_last [] y = refl
  nth_last (x ∷ xs) y = nth_last xs y

  module _ (P : X → Type 0) where
    -- what holds of each holds at every place, and the other way round
    pub all_nth : (k : ℕ) (xs : List X) (y : X) → slice_get xs k ≡ Some y → AllByRecursion P xs → P y
    all_nth k [] y e h = absurd (none_some y e)
    all_nth zero (x ∷ xs) y e h = subst P (some_same x y e) h.0
    all_nth (suc k) (x ∷ xs) y e h = all_nth k xs y e h.1

    pub all_from_nth : (xs : List X) → ((k : ℕ) (x : X) → slice_get xs k ≡ Some x → P x) → AllByRecursion P xs
    all_from_nth [] h = tt
    all_from_nth (x ∷ xs) h = (h 0 x refl, all_from_nth xs (λ k. h (suc k)))

    pub all_without : (k : ℕ) (xs : List X) → AllByRecursion P xs → AllByRecursion P (without k xs)
    all_without k [] h = tt
    all_without zero (x ∷ xs) h = h.1
    all_without (suc k) (x ∷ xs) h = (h.0, all_without k xs h.1)
