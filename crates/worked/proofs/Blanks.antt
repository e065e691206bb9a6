-- An area that holds only some bytes, as a list.
use Rattle.std.proofs.Common.{◌≡◌, ℕ, ◌-◌, true, ◌==◌, List, [], ◌∷◌, ◌++◌, length, take, drop, sym, refl, ap, ap₂, ◌∙◌}
use Rattle.std.specs.List.{list_all}
use Rattle.std.specs.Cmp.Lexicographic.{pointwise}
use Rattle.std.proofs.lemmas.Bool.{and_parts, eqb-true}
use Rattle.std.proofs.lemmas.Bool.Decides.{Decides-eqb}
use Rattle.std.proofs.lemmas.List.{length-drop}
use Rattle.std.proofs.lemmas.Slice.Eq.{starts_is}
use Rattle.worked.specs.Verdicts.{blanks, is_only}

-- bytes that are all blank
all_blank : (xs : List ℕ) → list_all (λ b. b == 0xAA) xs ≡ true → xs ≡ blanks (length xs)
all_blank [] h = refl
all_blank (x ∷ xs) h =
    let parts = and_parts (x == 0xAA) (list_all (λ b. b == 0xAA) xs) h in
    ap₂ (λ y ys. y ∷ ys) (eqb-true x 0xAA parts.0) (all_blank xs parts.1)

pub whole_area : (area bs : List ℕ) → length area ≡ 32 → is_only area bs ≡ true → area ≡ bs ++ blanks (32 - length bs)
whole_area area bs long h =
    let parts = and_parts (pointwise (λ a b. a == b) bs (take (length bs) area)) (list_all (λ b. b == 0xAA) (drop (length bs) area)) h in
    let begun = (starts_is Decides-eqb area bs true (sym parts.0)).0 refl in
    let rest = all_blank (drop (length bs) area) parts.1 in
    let size : length (drop (length bs) area) ≡ 32 - length bs = length-drop (length bs) area ∙ ap (λ n. n - length bs) long in
    begun ∙ ap (λ r. bs ++ r) (rest ∙ ap blanks size)
