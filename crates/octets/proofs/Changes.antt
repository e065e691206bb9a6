-- A sum of words after one byte was changed.
use Rattle.std.proofs.Common.{◌≡◌, ℕ, zero, suc, ◌+◌, ◌*◌, ◌<◌, ◌≤◌, ◌⊎◌, List, [], ◌∷◌, length, get_or, set, inl, inr, arith}
use Rattle.std.proofs.lemmas.Bool.Decides.{nat_tests}
use Rattle.octets.specs.Checks.{check, word_sum, folded}

-- the byte that was changed counts as it stands in its word: 256 times, or once
word_sum-set : (xs : List ℕ) (i v : ℕ) → i < length xs → (word_sum (set xs i v) + 256 * get_or xs i 0 ≡ word_sum xs + 256 * v) ⊎ (word_sum (set xs i v) + get_or xs i 0 ≡ word_sum xs + v)
word_sum-set [] i v h = absurd (omega arith)
word_sum-set (a ∷ []) zero v h = inl (omega arith)
word_sum-set (a ∷ []) (suc i) v h = absurd (omega arith)
word_sum-set (a ∷ b ∷ xs) zero v h = inl (omega arith)
word_sum-set (a ∷ b ∷ xs) (suc zero) v h = inr (omega arith)
word_sum-set (a ∷ b ∷ xs) (suc (suc i)) v h =
    elim (word_sum-set xs i v (omega arith)) [ inl e ↦ inl (omega (arith, e)) | inr e ↦ inr (omega (arith, e)) ]

-- sums that differ by less than 65,535 do not fold to one word
folded_apart : (s t x y : ℕ) → s + x ≡ t + y → (x ≡ y → ⊥) → x < 65535 → y < 65535 → folded s ≡ folded t → ⊥
folded_apart s t x y e differ few less same = grind (arith, nat_tests)

folded_small : (s : ℕ) → folded s ≤ 65535
folded_small s = grind (arith, nat_tests)

-- the check tells that one byte was changed
pub check_changed : (xs : List ℕ) (i v : ℕ) → i < length xs → v < 256 → get_or xs i 0 < 256 → (v ≡ get_or xs i 0 → ⊥) → check (set xs i v) ≡ check xs → ⊥
check_changed xs i v h small old differ e =
    let s = word_sum (set xs i v) in
    let t = word_sum xs in
    let o = get_or xs i 0 in
    let same : folded s ≡ folded t = omega (arith, e, folded_small s, folded_small t) in
    elim (word_sum-set xs i v h) [
      | inl d ↦ folded_apart s t (256 * o) (256 * v) d (λ q. differ (omega (arith, q))) (omega arith) (omega arith) same
      | inr d ↦ folded_apart s t o v d (λ q. differ (omega (arith, q))) (omega arith) (omega arith) same
    ]
