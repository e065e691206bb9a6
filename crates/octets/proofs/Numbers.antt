-- The bytes of the number that bytes write.
use Rattle.std.proofs.Common.{◌≡◌, ℕ, ◌+◌, ◌/◌, ◌%◌, ◌^◌, ◌<◌, ◌≤◌, List, [], ◌∷◌, length, get_or, arith}
use Rattle.std.specs.List.{AllByRecursion}
use Rattle.std.proofs.ByRecursion.{All-get_or}
use Rattle.octets.specs.Numbers.{bytes16, bytes32, number16, number32}

pub bytes_number16 : (a b : ℕ) → a < 256 → b < 256 → bytes16 (number16 a b) ≡ a ∷ b ∷ []
bytes_number16 a b p q = grind arith

pub bytes_number32 : (a b c d : ℕ) → a < 256 → b < 256 → c < 256 → d < 256 → bytes32 (number32 a b c d) ≡ a ∷ b ∷ c ∷ d ∷ []
bytes_number32 a b c d p q r s = grind arith

pub number_bytes16 : (n : ℕ) → n < 65536 → number16 (n / 256 % 256) (n % 256) ≡ n
number_bytes16 n h = omega arith

-- each of some bytes is one
pub byte_at : (bs : List ℕ) → AllByRecursion (λ b. b < 256) bs → (k : ℕ) → k < length bs → get_or bs k 0 < 256
byte_at bs all k h = All-get_or (λ b. b < 256) bs k 0 h all

-- the number that lies at place i of a list of bytes
module _ (bs : List ℕ) (i : ℕ) (all : AllByRecursion (λ b. b < 256) bs) where
  byte : (k : ℕ) → k < length bs → get_or bs k 0 < 256
  byte = byte_at bs all

  pub part16 : i + 2 ≤ length bs → bytes16 (number16 (get_or bs i 0) (get_or bs (i + 1) 0)) ≡ get_or bs i 0 ∷ get_or bs (i + 1) 0 ∷ []
  part16 h = bytes_number16 _ _ (byte i (omega arith)) (byte (i + 1) (omega arith))

  pub below16 : i + 2 ≤ length bs → number16 (get_or bs i 0) (get_or bs (i + 1) 0) < 2 ^ 16
  below16 h = omega (arith, byte i (omega arith), byte (i + 1) (omega arith))

  pub part32 : i + 4 ≤ length bs → bytes32 (number32 (get_or bs i 0) (get_or bs (i + 1) 0) (get_or bs (i + 2) 0) (get_or bs (i + 3) 0)) ≡ get_or bs i 0 ∷ get_or bs (i + 1) 0 ∷ get_or bs (i + 2) 0 ∷ get_or bs (i + 3) 0 ∷ []
  part32 h = bytes_number32 _ _ _ _ (byte i (omega arith)) (byte (i + 1) (omega arith)) (byte (i + 2) (omega arith)) (byte (i + 3) (omega arith))

  pub below32 : i + 4 ≤ length bs → number32 (get_or bs i 0) (get_or bs (i + 1) 0) (get_or bs (i + 2) 0) (get_or bs (i + 3) 0) < 2 ^ 32
  below32 h = omega (arith, byte i (omega arith), byte (i + 1) (omega arith), byte (i + 2) (omega arith), byte (i + 3) (omega arith))
