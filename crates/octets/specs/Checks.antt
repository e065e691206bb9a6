-- The check of RFC 1071, by the sum of the 16-bit words that it covers.
use Rattle.std.specs.Prelude.{ℕ, ◌+◌, ◌-◌, ◌*◌, ◌%◌, cond, List, [], ◌∷◌, ◌==◌, nat_lt, slice_index}
use Rattle.octets.specs.Numbers.{number32}

-- the sum of the words of some bytes, the first byte of a word its high one; a zero byte is added behind an odd count of bytes
abbrev pub word_sum : List ℕ → ℕ
word_sum [] = 0
word_sum (a ∷ []) = a * 256
word_sum (a ∷ b ∷ bs) = a * 256 + b + word_sum bs

-- a sum folded into 16 bits: 0 stays, and any other becomes the number from 1 to 65,535 that leaves the same remainder by 65,535
abbrev pub folded : ℕ → ℕ
folded s = cond (s == 0) 0 ((s - 1) % 65535 + 1)

-- the check over some bytes: the complement of their folded sum
abbrev pub check : List ℕ → ℕ
check bs = 65535 - folded (word_sum bs)

-- the first four bytes as one word of 32 bits; a zero byte stands for each one that is missing
abbrev pub word32 : List ℕ → ℕ
word32 bs = number32 (slice_index bs 0) (slice_index bs 1) (slice_index bs 2) (slice_index bs 3)

-- the sum of two words of 32 bits with the carry brought round
abbrev pub ones_sum : ℕ → ℕ → ℕ
ones_sum a b = cond (nat_lt 4294967295 (a + b)) (a + b - 4294967295) (a + b)
