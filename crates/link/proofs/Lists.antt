-- A list that is filled from a place on.
use Rattle.std.proofs.Common.{◌≡◌, ℕ, ◌+◌, ◌-◌, ◌<◌, ◌≤◌, List, [], ◌∷◌, ◌++◌, length, take, drop, set, sym, ap, ◌∙◌, arith}
use Rattle.std.proofs.lemmas.List.{drop-append-le, drop-drop, drop-set-lt, length-take-le}
use Rattle.std.proofs.lemmas.List.{take-append-drop, take-set-le, take-take, take_more_set}
use Rattle.std.proofs.lemmas.Grind.{drop_more_same}

module _ {E : Type 0} where
  -- one more element behind those that were filled in
  pub filled_more : (m n : ℕ) (xs : List E) (x : E) → m ≤ n → n < length xs →
      drop m (take n xs) ++ (x ∷ []) ≡ drop m (take (n + 1) (set xs n x))
  filled_more m n xs x h i =
      let l = length-take-le n xs (omega arith) in
      sym (ap (drop m) (take_more_set xs n x i) ∙ drop-append-le m (take n xs) (x ∷ []) (omega arith))

  -- the places before it stay as they were
  pub before_more : (m n : ℕ) (xs ys : List E) (x : E) → m ≤ n → take m xs ≡ take m ys → take m (set xs n x) ≡ take m ys
  before_more m n xs ys x h e = take-set-le m xs n x h ∙ e

  -- and so do those behind it
  pub behind_more : (n : ℕ) (xs ys : List E) (x : E) → drop n xs ≡ drop n ys → drop (n + 1) (set xs n x) ≡ drop (n + 1) ys
  behind_more n xs ys x e = drop-set-lt (n + 1) xs n x (omega arith) ∙ drop_more_same xs ys n e

  -- where a list was filled up to one place, and then up to a later one, those behind that are as they were at first
  pub behind_later : (m n : ℕ) (xs ys zs : List E) → m ≤ n → drop m xs ≡ drop m ys → drop n zs ≡ drop n xs → drop n zs ≡ drop n ys
  behind_later m n xs ys zs h e f =
      let k : m + (n - m) ≡ n = omega arith in
      let later = λ (l : List E). ap (λ i. drop i l) (sym k) ∙ sym (drop-drop (n - m) m l) in
      f ∙ later xs ∙ ap (drop (n - m)) e ∙ sym (later ys)

  -- and what was filled in is both parts together
  pub filled_both : (m n : ℕ) (xs ys : List E) → m ≤ n → take m ys ≡ take m xs → take m xs ++ drop m (take n ys) ≡ take n ys
  filled_both m n xs ys h e = ap (λ l. l ++ drop m (take n ys)) (sym e ∙ sym (take-take m n ys h)) ∙ take-append-drop m (take n ys)
