-- Values that lie in a fixed number of bytes.
use Rattle.std.specs.Prelude.{◌≡◌, ℕ, ◌+◌, cond, List, length, Some, None, Option, ◌==◌}
use Rattle.std.proofs.Common.{sym, ap, ◌∙◌, arith}
use Rattle.std.proofs.lemmas.List.{take_all}
use Rattle.std.proofs.lemmas.Bool.Decides.{nat_tests}
use Rattle.octets.proofs.Heads.{heads, take_heads}

-- the value that just n bytes hold, by its parts; none where there are not as many
abbrev pub value_in : {K : Type 0} → ℕ → (List ℕ → K) → List ℕ → Option K
value_in n parts bs = cond (length bs == n) (Some (parts bs)) None

-- n bytes, one by one
pub spelled : (n : ℕ) (bs : List ℕ) → length bs ≡ n → heads 0 n 0 bs ≡ bs
spelled n bs l = sym (take_heads 0 n 0 bs (omega arith)) ∙ take_all (n + 0) bs (omega arith)

-- where writing the parts of n bytes gives these bytes, no other bytes hold a value than its own
module _ {K : Type 0} (n : ℕ) (parts : List ℕ → K) (written : K → List ℕ) (bs : List ℕ) (e : K) where
  holds : value_in n parts bs ≡ Some e → (length bs ≡ n) × (parts bs ≡ e)
  holds h = grind (arith, nat_tests)

  pub only_written : (length bs ≡ n → written (parts bs) ≡ bs) → value_in n parts bs ≡ Some e → written e ≡ bs
  only_written same h = ap written (sym (holds h).1) ∙ same (holds h).0
