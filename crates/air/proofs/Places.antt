-- Laws of waiting frames by their places.
use Rattle.std.proofs.Common.{◌≡◌, ℕ, zero, suc, ◌+◌, ◌≤◌, ◌==◌, Bool, List, [], ◌∷◌, map, length, get_or, drop, Some, refl, ap, arith}
use Rattle.std.proofs.lemmas.List.{drop_more}
use Rattle.std.proofs.lemmas.Option.{slice_get-get_or}
use Rattle.std.specs.List.{list_any, range_with_len, remove, slice_get}
use Rattle.air.specs.Waiting.{Waiting, barred, without}
use Rattle.air.specs.Places.{nothing}
use Rattle.air.specs.Steps.{Bytes, count_of}

-- the recursion by parts of the list
pub without_is : {A : Type 0} (k : ℕ) (xs : List A) → without k xs ≡ remove xs k
without_is zero [] = refl
without_is (suc k) [] = refl
without_is zero (x ∷ xs) = refl
without_is (suc k) (x ∷ xs) = ap (λ r. x ∷ r) (without_is k xs)

-- what is made of each element is made of each that stays
pub map-without : {A B : Type 0} (f : A → B) (k : ℕ) (xs : List A) → map f (without k xs) ≡ without k (map f xs)
map-without f k [] = refl
map-without f zero (x ∷ xs) = refl
map-without f (suc k) (x ∷ xs) = ap (λ ys. f x ∷ ys) (map-without f k xs)

-- whether a frame is barred, by the test of each place before it
module _ (bound : ℕ) (ws : List (Waiting Bytes)) where
  abbrev pub is_at_bound : ℕ → Bool
  is_at_bound i = count_of (slice_get ws i) == bound

  barred_from : (j k : ℕ) → j + k ≤ length ws → list_any is_at_bound (range_with_len j k) ≡ barred bound k (drop j ws)
  barred_from j zero within = refl
  barred_from j (suc k) within =
      let more : drop j ws ≡ get_or ws j nothing ∷ drop (j + 1) ws = drop_more ws j nothing (omega arith) in
      let here : slice_get ws j ≡ Some (get_or ws j nothing) = slice_get-get_or ws j nothing (omega arith) in
      let rest = barred_from (j + 1) k (omega arith) in
      rw more (rw (← rest) (rw here refl))

  pub barred_any : (k : ℕ) → k ≤ length ws → list_any is_at_bound (range_with_len 0 k) ≡ barred bound k ws
  barred_any k within = barred_from 0 k (omega arith)
