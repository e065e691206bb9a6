-- Each waiting frame stays fine through the calls of an air.
use Rattle.std.proofs.Common.{◌≡◌, ℕ, zero, suc, ◌<◌, ◌≤◌, false, eqb, List, [], ◌∷◌, ◌++◌, length, get_or, refl, ap, arith}
use Rattle.std.proofs.ByRecursion.{All-from_get_or, All-get_or, All-push}
use Rattle.std.proofs.lemmas.Bool.{eqb-false, or_parts}
use Rattle.std.specs.List.{AllByRecursion}
use Rattle.air.proofs.Nth.{all_without}
use Rattle.air.specs.Waiting.{Waiting, barred, fresh, overtaken, without}
use Rattle.air.specs.Steps.{Bytes, Fine}
use Rattle.air.specs.Places.{EachFine, nothing}

pub length-overtaken : {W : Type 0} (k : ℕ) (ws : List (Waiting W)) → length (overtaken k ws) ≡ length ws
length-overtaken zero ws = refl
length-overtaken (suc k) [] = refl
length-overtaken (suc k) (w ∷ ws) = ap suc (length-overtaken k ws)

all_overtaken : (bound k : ℕ) (ws : List (Waiting Bytes)) → AllByRecursion (Fine bound) ws → barred bound k ws ≡ false → AllByRecursion (Fine bound) (overtaken k ws)
all_overtaken bound zero ws all free = all
all_overtaken bound (suc k) [] all free = tt
all_overtaken bound (suc k) (w ∷ ws) all free =
    let parts = or_parts (eqb w.count bound) (barred bound k ws) free in
    let other = eqb-false w.count bound parts.0 in
    ((all.0.0, all.0.1, all.0.2, omega arith), all_overtaken bound k ws all.1 parts.1)

-- a frame that has just been put
pub fine_fresh : (bound : ℕ) (bs : Bytes) → 1 ≤ length bs → length bs ≤ 32 → ((i : ℕ) → get_or bs i 0 < 256) → Fine bound (fresh bs)
fine_fresh bound bs some few bytes = (some, few, bytes, omega arith)

module _ (bound : ℕ) where
  all_of : (ws : List (Waiting Bytes)) → EachFine bound ws → AllByRecursion (Fine bound) ws
  all_of ws each = All-from_get_or (Fine bound) ws nothing each

  each_of : (ws : List (Waiting Bytes)) → AllByRecursion (Fine bound) ws → EachFine bound ws
  each_of ws all k at = All-get_or (Fine bound) ws k nothing at all

  pub each_push : (ws : List (Waiting Bytes)) (w : Waiting Bytes) → EachFine bound ws → Fine bound w → EachFine bound (ws ++ (w ∷ []))
  each_push ws w each fine = each_of (ws ++ (w ∷ [])) (All-push (Fine bound) ws w (all_of ws each) fine)

  pub each_without : (k : ℕ) (ws : List (Waiting Bytes)) → EachFine bound ws → EachFine bound (without k ws)
  each_without k ws each = each_of (without k ws) (all_without (Fine bound) k ws (all_of ws each))

  pub each_overtaken : (k : ℕ) (ws : List (Waiting Bytes)) → EachFine bound ws → barred bound k ws ≡ false → EachFine bound (overtaken k ws)
  each_overtaken k ws each free = each_of (overtaken k ws) (all_overtaken bound k ws (all_of ws each) free)

-- a frame that bars none is below the bound
below : (bound k i : ℕ) (ws : List (Waiting Bytes)) → AllByRecursion (Fine bound) ws → barred bound k ws ≡ false → i < k → i < length ws → (get_or ws i nothing).count < bound
below bound k i [] all free before at = absurd (omega arith)
below bound zero i (w ∷ ws) all free before at = absurd (omega arith)
below bound (suc k) zero (w ∷ ws) all free before at =
    let parts = or_parts (eqb w.count bound) (barred bound k ws) free in
    let other = eqb-false w.count bound parts.0 in
    let most = all.0.3 in
    omega arith
below bound (suc k) (suc i) (w ∷ ws) all free before at =
    below bound k i ws all.1 (or_parts (eqb w.count bound) (barred bound k ws) free).1 (omega arith) (omega arith)

pub below_bound : (bound k i : ℕ) (ws : List (Waiting Bytes)) → EachFine bound ws → barred bound k ws ≡ false → i < k → i < length ws → (get_or ws i nothing).count < bound
below_bound bound k i ws each free before at = below bound k i ws (all_of bound ws each) free before at
