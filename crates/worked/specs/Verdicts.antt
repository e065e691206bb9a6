-- When an area holds some bytes and no others, and what is printed of a worked case.
use Rattle.std.specs.Prelude.{ℕ, zero, suc, Bool, true, false, ◌&&◌, ◌==◌, List, [], ◌∷◌, length, take, drop, Some, Option, codes}
use Rattle.std.specs.List.{list_all}
use Rattle.std.specs.Cmp.Lexicographic.{pointwise}
use Rattle.worked.specs.declared.verdicts.Verdict.{Verdict}
use Rattle.worked.specs.declared.verdicts.Verdict.TheVariants.{Holds, Off}

-- an area begins with these bytes, and each byte behind them is blank
abbrev pub is_only : List ℕ → List ℕ → Bool
is_only area bs = pointwise (λ a b. a == b) bs (take (length bs) area) && list_all (λ b. b == 0xAA) (drop (length bs) area)

-- so many blank bytes
abbrev pub blanks : ℕ → List ℕ
blanks zero = []
blanks (suc n) = 0xAA ∷ blanks n

-- the verdict on a case, by whether it held
abbrev pub verdict_of : Bool → Verdict
verdict_of true = Holds
verdict_of false = Off

-- what is printed of it
abbrev pub verdict_text : Verdict → Option (List ℕ)
verdict_text Holds = Some (codes "holds")
verdict_text Off = Some (codes "off")
