-- Laws of the folded sum of words.
use Rattle.std.proofs.Common.{◌≡◌, ℕ, zero, suc, ◌+◌, ◌-◌, ◌*◌, ◌≤◌, min, List, [], ◌∷◌, ◌++◌, length, take, drop, length-append, ap, sym, zero-add, ◌∙◌, refl, arith}
use Rattle.std.specs.List.{fold}
use Rattle.std.specs.Simd.{first_chunks}
use Rattle.std.proofs.lemmas.Bool.Decides.{nat_tests}
use Rattle.std.proofs.lemmas.List.{drop-drop, length-drop, length-take, take-append-drop}
use Rattle.octets.specs.Checks.{word_sum, word32, folded, ones_sum}

-- one word, and what follows it, beside a sum
word_first : (x rest : List ℕ) (s : ℕ) → length x ≡ min 4 (length (x ++ rest)) → folded (s + word_sum (x ++ rest)) ≡ folded (s + word32 x + word_sum rest)
word_first [] [] s e = grind (arith, nat_tests)
word_first [] (h ∷ rest) s e = absurd (omega arith)
word_first (a ∷ []) [] s e = grind (arith, nat_tests)
word_first (a ∷ []) (h ∷ rest) s e = absurd (omega arith)
word_first (a ∷ b ∷ []) [] s e = grind (arith, nat_tests)
word_first (a ∷ b ∷ []) (h ∷ rest) s e = absurd (omega arith)
word_first (a ∷ b ∷ c ∷ []) [] s e = grind (arith, nat_tests)
word_first (a ∷ b ∷ c ∷ []) (h ∷ rest) s e = absurd (omega arith)
word_first (a ∷ b ∷ c ∷ d ∷ []) rest s e = grind (arith, nat_tests)
word_first (a ∷ b ∷ c ∷ d ∷ h ∷ x) rest s e = absurd (omega (arith, length-append {A = ℕ}))

-- to bring a carry round does not change a folded sum
pub folded_carry : (a b s : ℕ) → folded (ones_sum a b + s) ≡ folded (a + b + s)
folded_carry a b s = grind (arith, nat_tests)

-- a sum, and the first word of some bytes added to it
abbrev pub plus_word : ℕ → List ℕ → ℕ
plus_word s bs = ones_sum s (word32 bs)

-- the words of some fours of bytes, added up, leave the rest of the bytes to add
fours_added : (k : ℕ) (bs : List ℕ) (s : ℕ) → k * 4 ≤ length bs → folded (fold plus_word s (first_chunks 4 k bs) + word_sum (drop (k * 4) bs)) ≡ folded (s + word_sum bs)
fours_added zero bs s e = refl
fours_added (suc k) bs s e =
    let long : length (drop 4 bs) ≡ length bs - 4 = length-drop 4 bs in
    let more = fours_added k (drop 4 bs) (plus_word s (take 4 bs)) (omega arith) in
    let behind : drop (suc k * 4) bs ≡ drop (k * 4) (drop 4 bs) = ap (λ n. drop n bs) (omega arith) ∙ sym (drop-drop (k * 4) 4 bs) in
    let word : length (take 4 bs) ≡ min 4 (length (take 4 bs ++ drop 4 bs)) = length-take 4 bs ∙ sym (ap (λ b. min 4 (length b)) (take-append-drop 4 bs)) in
    ap (λ d. folded (fold plus_word s (first_chunks 4 (suc k) bs) + word_sum d)) behind ∙ more ∙ folded_carry s (word32 (take 4 bs)) (word_sum (drop 4 bs)) ∙ sym (word_first (take 4 bs) (drop 4 bs) s word) ∙ ap (λ b. folded (s + word_sum b)) (take-append-drop 4 bs)

-- the last word, of fewer than four bytes, folds in too
last_added : (bs : List ℕ) (s : ℕ) → length bs ≤ 3 → folded (plus_word s bs) ≡ folded (s + word_sum bs)
last_added bs s e = grind (arith, nat_tests)

pub all_added : (k : ℕ) (bs : List ℕ) → k * 4 ≤ length bs → length (drop (k * 4) bs) ≤ 3 → folded (plus_word (fold plus_word 0 (first_chunks 4 k bs)) (drop (k * 4) bs)) ≡ folded (word_sum bs)
all_added k bs e few = last_added (drop (k * 4) bs) _ few ∙ fours_added k bs 0 e ∙ ap folded (zero-add _)
