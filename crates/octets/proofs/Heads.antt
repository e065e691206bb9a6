-- The first elements of a list, one by one.
use Rattle.std.proofs.Common.{◌≡◌, ℕ, zero, suc, ◌+◌, ◌≤◌, List, ◌∷◌, length, get_or, take, drop, ap, ◌∙◌, suc-add, zero-add, arith}
use Rattle.std.proofs.lemmas.List.{drop_more}

-- n elements from place i on, and the k behind them
abbrev pub heads : ℕ → ℕ → ℕ → List ℕ → List ℕ
heads i zero k bs = take k (drop i bs)
heads i (suc n) k bs = get_or bs i 0 ∷ heads (i + 1) n k bs

pub take_heads : (i n k : ℕ) (bs : List ℕ) → i + n ≤ length bs → take (n + k) (drop i bs) ≡ heads i n k bs
take_heads i zero k bs h = ap (λ m. take m (drop i bs)) (zero-add k)
take_heads i (suc n) k bs h =
    let more : drop i bs ≡ get_or bs i 0 ∷ drop (i + 1) bs = drop_more bs i 0 (omega arith) in
    ap (λ m. take m (drop i bs)) (suc-add n k) ∙ ap (take (suc (n + k))) more ∙ ap (λ t. get_or bs i 0 ∷ t) (take_heads (i + 1) n k bs (omega arith))
