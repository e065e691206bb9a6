-- Ranges of signed fields.
use Rattle.std.specs.Prelude.{ℕ, pred, Bool, ◌||◌, ℤ, negsuc, int_lt}

-- a number below zero, by its magnitude, which is 1 or more
abbrev pub minus : ℕ → ℤ
minus n = negsuc (pred n)

-- below a lowest value or above a highest one
abbrev pub out_of : ℤ → ℤ → ℤ → Bool
out_of low high z = int_lt z low || int_lt high z
