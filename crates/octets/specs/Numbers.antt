-- Numbers as bytes, the highest byte first.
use Rattle.std.specs.Prelude.{ℕ, ◌+◌, ◌*◌, ◌/◌, ◌%◌, List, [], ◌∷◌}

-- the two bytes of a 16-bit number
abbrev pub bytes16 : ℕ → List ℕ
bytes16 n = (n / 256 % 256) ∷ (n % 256) ∷ []

-- the four bytes of a 32-bit number
abbrev pub bytes32 : ℕ → List ℕ
bytes32 n = (n / 16777216 % 256) ∷ (n / 65536 % 256) ∷ (n / 256 % 256) ∷ (n % 256) ∷ []

-- the number that two bytes write
abbrev pub number16 : ℕ → ℕ → ℕ
number16 a b = a * 256 + b

-- the number that four bytes write
abbrev pub number32 : ℕ → ℕ → ℕ → ℕ → ℕ
number32 a b c d = a * 16777216 + b * 65536 + c * 256 + d
