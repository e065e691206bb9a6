-- What the word of marks tells of a receiver's slots, and that it changes as they do.
use Rattle.std.proofs.Common.{◌≡◌, refl, sym, ap, ap₂, ◌∙◌, ℕ, zero, suc, ◌+◌, ◌-◌, ◌*◌, ◌/◌, ◌%◌, ◌^◌, ◌<◌, ◌≤◌, max, Option, Some, None, List, [], ◌∷◌, ◌++◌, length, set, take, drop, replicate, bit_or, pow-suc, arith}
use Rattle.std.proofs.lemmas.Nat.{pow_pos, one_shl}
use Rattle.std.specs.Int.{trailing_ones, w32}
use Rattle.std.specs.Int.RustNames.{count_ones}
use Rattle.std.specs.Int.Count.{count_trailing_zeros, under, ones_step, ones-le}
use Rattle.std.specs.Int.Bits.{or_step, or_zero_r}
use Rattle.protocol.specs.Laws.{placed_in}
use Rattle.protocol.specs.Windows.{first_free}
use Rattle.window.specs.Marks.{mark_of, marks_of}

-- a word whose lowest bit is b and whose other bits are m: its lowest bit
lowest : (b m : ℕ) → b < 2 → (b + 2 * m) % 2 ≡ b
lowest b m h = omega arith

-- its other bits
others : (b m : ℕ) → b < 2 → (b + 2 * m) / 2 ≡ m
others b m h = omega arith

-- how many of its bits are set
ones_in_both : (b m : ℕ) → b < 2 → count_ones (b + 2 * m) ≡ b + count_ones m
ones_in_both b m h = ones_step (b + 2 * m) ∙ ap₂ (λ a n. a + count_ones n) (lowest b m h) (others b m h)

-- two such words joined: their lowest bits are, and their others
or_in_both : (a m b n : ℕ) → a < 2 → b < 2 → bit_or (a + 2 * m) (b + 2 * n) ≡ max a b + 2 * bit_or m n
or_in_both a m b n h i =
    let rest = ap₂ bit_or (others a m h) (others b n i) in
    omega (arith, or_step (a + 2 * m) (b + 2 * n), rest, lowest a m h, lowest b n i)

-- how many zeros come before the lowest one of such a word of k + 1 bits
zeros_of_both : (k n b m : ℕ) → n % 2 ≡ b → n / 2 ≡ m → count_trailing_zeros (suc k) n ≡ under b (count_trailing_zeros k m)
unfolding count_trailing_zeros
zeros_of_both k n b m low high = ap₂ (λ a w. under a (count_trailing_zeros k w)) low high

module _ {E : Type 0} where
  -- a mark is a bit
  mark_below : (x : Option E) → mark_of x < 2
  mark_below None = omega arith
  mark_below (Some e) = omega arith

  -- the marks of k slots are a word of k bits
  marks_below : (k : ℕ) (xs : List (Option E)) → length xs ≤ k → marks_of xs < 2 ^ k
  marks_below k [] h = pow_pos k
  marks_below zero (x ∷ xs) h = elim h [ ]
  marks_below (suc k) (x ∷ xs) h = omega (arith, pow-suc 2 k, mark_below x, marks_below k xs (omega arith))

  -- where every slot is free, no mark is set
  pub marks_all_free : (n : ℕ) (xs : List (Option E)) → xs ≡ replicate n None → marks_of xs ≡ 0
  marks_all_free n xs e = ap marks_of e ∙ none n
    where
      -- free slots alone mark nothing
      none : (n : ℕ) → marks_of (replicate {A = Option E} n None) ≡ 0
      none zero = refl
      none (suc n) = omega (arith, none n)

  -- as many marks are set as slots are filled
  pub marks_counted : (xs : List (Option E)) → count_ones (marks_of xs) ≡ placed_in xs
  marks_counted [] = omega (arith, ones-le 0 0 (omega arith))
  marks_counted (None ∷ xs) = omega (arith, ones_in_both 0 (marks_of xs) (omega arith), marks_counted xs)
  marks_counted (Some e ∷ xs) = omega (arith, ones_in_both 1 (marks_of xs) (omega arith), marks_counted xs)

  -- the lowest mark that is not set is that of the first free slot; where all k slots are filled, there are k below it
  first_unset : (k : ℕ) (xs : List (Option E)) → length xs ≤ k → count_trailing_zeros k (2 ^ k - 1 - marks_of xs) ≡ first_free xs
  unfolding count_trailing_zeros
  first_unset zero [] h = refl
  first_unset zero (x ∷ xs) h = elim h [ ]
  first_unset (suc k) [] h =
      let p = pow_pos k in let e = pow-suc 2 k in
      zeros_of_both k _ 1 (2 ^ k - 1) (omega arith) (omega arith)
  first_unset (suc k) (None ∷ xs) h =
      let below = marks_below k xs (omega arith) in let e = pow-suc 2 k in
      zeros_of_both k _ 1 (2 ^ k - 1 - marks_of xs) (omega arith) (omega arith)
  first_unset (suc k) (Some x ∷ xs) h =
      let below = marks_below k xs (omega arith) in let e = pow-suc 2 k in
      zeros_of_both k _ 0 (2 ^ k - 1 - marks_of xs) (omega arith) (omega arith) ∙ ap suc (first_unset k xs (omega arith))

  -- as many marks are set below the lowest that is not as slots are filled before the first free one
  pub marks_before_free : (xs : List (Option E)) → length xs ≤ 32 → trailing_ones w32 (marks_of xs) ≡ first_free xs
  marks_before_free xs few = first_unset 32 xs few

  -- to fill slot d sets bit d
  bit_filled : (xs : List (Option E)) (d : ℕ) (e : E) → d < length xs → bit_or (marks_of xs) (2 ^ d) ≡ marks_of (set xs d (Some e))
  bit_filled [] d x h = elim h [ ]
  bit_filled (x ∷ xs) zero e h =
      let m = marks_of xs in
      omega (arith, or_in_both (mark_of x) m 1 0 (mark_below x) (omega arith), or_zero_r m, mark_below x)
  bit_filled (x ∷ xs) (suc d) e h =
      let double : 2 ^ suc d ≡ 0 + 2 * 2 ^ d = omega (arith, pow-suc 2 d) in
      let both = or_in_both (mark_of x) (marks_of xs) 0 (2 ^ d) (mark_below x) (omega arith) in
      rw double (omega (arith, both, bit_filled xs d e (omega arith)))

  -- the same of the bit that is made by a shift in a word of 32 bits
  pub marks_filled : (xs : List (Option E)) (d : ℕ) (e : E) → d < length xs → length xs ≤ 32
      → bit_or (marks_of xs) (1 * 2 ^ d % 2 ^ 32) ≡ marks_of (set xs d (Some e))
  marks_filled xs d e h few = ap (bit_or (marks_of xs)) (one_shl d 32 (omega arith)) ∙ bit_filled xs d e h

  -- a free slot behind the others sets no mark
  one_more_free : (xs : List (Option E)) → marks_of (xs ++ None ∷ []) ≡ marks_of xs
  one_more_free [] = refl
  one_more_free (x ∷ xs) = ap (λ m. mark_of x + 2 * m) (one_more_free xs)

  -- as the first slot is freed and goes behind the others, every mark moves down by one
  pub marks_moved_on : (xs : List (Option E)) (x : Option E) → 1 ≤ length xs → x ≡ None
      → marks_of (drop 1 (set xs 0 x) ++ take 1 (set xs 0 x)) ≡ marks_of xs / 2
  marks_moved_on [] x h e = elim h [ ]
  marks_moved_on (y ∷ xs) x h e =
      ap (λ z. marks_of (xs ++ z ∷ [])) e ∙ one_more_free xs ∙ sym (others (mark_of y) (marks_of xs) (mark_below y))
