-- Frames beside their serial numbers: two lists of one length, whose serial numbers rise.
use Rattle.std.proofs.Common.{◌≡◌, ℕ, zero, suc, ◌<◌, ◌≤◌, false, eqb, List, [], ◌∷◌, ◌++◌, length, get_or, Some, sym, refl, ap, subst, inl, inr, arith}
use Rattle.std.specs.List.{AllByRecursion, slice_get}
use Rattle.std.proofs.ByRecursion.{All-get_or, All-push}
use Rattle.std.proofs.lemmas.Bool.{cases_eq, eqb-false, ne_eqb, or_parts}
use Rattle.air.specs.Waiting.{Waiting, without, raised, overtaken, barred}
use Rattle.air.specs.Histories.{occurrences}
use Rattle.air.proofs.Nth.{none_some, some_same, all_nth, all_without}

-- P of each serial number and its frame, and each serial number is below those behind it
abbrev pub Rows : {X : Type 0} → (ℕ → X → Type 0) → List ℕ → List X → Type 0
Rows P [] [] = Unit {0}
Rows P [] (x ∷ xs) = ⊥
Rows P (s ∷ ss) [] = ⊥
Rows P (s ∷ ss) (x ∷ xs) = P s x × AllByRecursion (λ t. s < t) ss × Rows P ss xs

module _ {X : Type 0} (P : ℕ → X → Type 0) where
  pub rows_length : (ss : List ℕ) (xs : List X) → Rows P ss xs → length ss ≡ length xs
  rows_length [] [] h = refl
  rows_length [] (x ∷ xs) h = absurd h
  rows_length (s ∷ ss) [] h = absurd h
  rows_length (s ∷ ss) (x ∷ xs) h = ap suc (rows_length ss xs h.2)

  -- the row of place k
  pub rows_at : (k d : ℕ) (ss : List ℕ) (xs : List X) (y : X) → Rows P ss xs → slice_get xs k ≡ Some y → P (get_or ss k d) y
  rows_at k d [] [] y h e = absurd (none_some y e)
  rows_at k d [] (x ∷ xs) y h e = absurd h
  rows_at k d (s ∷ ss) [] y h e = absurd h
  rows_at zero d (s ∷ ss) (x ∷ xs) y h e = subst (P s) (some_same x y e) h.0
  rows_at (suc k) d (s ∷ ss) (x ∷ xs) y h e = rows_at k d ss xs y h.2 e

  -- serial numbers rise from place to place
  pub rows_rise : (j k d : ℕ) (ss : List ℕ) (xs : List X) → Rows P ss xs → j < k → k < length ss → get_or ss j d < get_or ss k d
  rows_rise j k d [] xs h l m = absurd (omega arith)
  rows_rise j k d (s ∷ ss) [] h l m = absurd h
  rows_rise j zero d (s ∷ ss) (x ∷ xs) h l m = absurd (omega arith)
  rows_rise zero (suc k) d (s ∷ ss) (x ∷ xs) h l m = All-get_or (λ t. s < t) ss k d (omega arith) h.1
  rows_rise (suc j) (suc k) d (s ∷ ss) (x ∷ xs) h l m = rows_rise j k d ss xs h.2 (omega arith) (omega arith)

  -- a serial number that stands in the list has a row
  pub rows_found : (s : ℕ) (ss : List ℕ) (xs : List X) → Rows P ss xs → occurrences s ss ≡ 1 → (x : X) × P s x
  rows_found s [] xs h one = absurd (omega arith)
  rows_found s (t ∷ ss) [] h one = absurd h
  rows_found s (t ∷ ss) (x ∷ xs) h one =
      elim (cases_eq s t) [
        | inl e ↦ (x, subst (λ u. P u x) (sym e) h.0)
        | inr apart ↦ rows_found s ss xs h.2 (omega (arith, rw (ne_eqb s t apart) at one))
      ]

  module _ (Q : ℕ → X → Type 0) where
    -- a new row behind all others
    pub rows_push : (t : ℕ) (y : X) → ((s : ℕ) (x : X) → P s x → Q s x) → ((s : ℕ) (x : X) → P s x → s < t) → Q t y
        → (ss : List ℕ) (xs : List X) → Rows P ss xs → Rows Q (ss ++ (t ∷ [])) (xs ++ (y ∷ []))
    rows_push t y keep below new [] [] h = (new, tt, tt)
    rows_push t y keep below new [] (x ∷ xs) h = absurd h
    rows_push t y keep below new (s ∷ ss) [] h = absurd h
    rows_push t y keep below new (s ∷ ss) (x ∷ xs) h =
        (keep s x h.0, All-push (λ u. s < u) ss t h.1 (below s x h.0), rows_push t y keep below new ss xs h.2)

    -- rows that change nothing but what holds of each, where S holds of every serial number
    rows_with : (S : ℕ → Type 0) → ((s : ℕ) (x : X) → P s x → S s → Q s x) → (ss : List ℕ) (xs : List X) → AllByRecursion S ss → Rows P ss xs → Rows Q ss xs
    rows_with S keep [] [] a h = tt
    rows_with S keep [] (x ∷ xs) a h = absurd h
    rows_with S keep (s ∷ ss) [] a h = absurd h
    rows_with S keep (s ∷ ss) (x ∷ xs) a h = (keep s x h.0 a.0, h.1, rows_with S keep ss xs a.1 h.2)

    -- all rows but that of place k
    pub rows_without : (t : ℕ) → ((s : ℕ) (x : X) → P s x → (s ≡ t → ⊥) → Q s x)
        → (k : ℕ) (ss : List ℕ) (xs : List X) → slice_get ss k ≡ Some t → Rows P ss xs → Rows Q (without k ss) (without k xs)
    rows_without t keep k [] [] e h = tt
    rows_without t keep k [] (x ∷ xs) e h = absurd h
    rows_without t keep k (s ∷ ss) [] e h = absurd h
    rows_without t keep zero (s ∷ ss) (x ∷ xs) e h =
        let same = some_same s t e in
        rows_with (λ u. s < u) (λ u y p above. keep u y p (λ again. omega arith)) ss xs h.1 h.2
    rows_without t keep (suc k) (s ∷ ss) (x ∷ xs) e h =
        let below = all_nth (λ u. s < u) k ss t e h.1 in
        (keep s x h.0 (λ same. omega arith), all_without (λ u. s < u) k ss h.1, rows_without t keep k ss xs e h.2)

-- all rows when the frame of place k, whose serial number is t, has overtaken those before it, none of which was at the bound
module _ {W : Type 0} (P Q : ℕ → Waiting W → Type 0) (bound t : ℕ)
    (older : (s : ℕ) (w : Waiting W) → P s w → s < t → (w.count ≡ bound → ⊥) → Q s (raised w))
    (others : (s : ℕ) (w : Waiting W) → P s w → t ≤ s → Q s w) where
  pub rows_overtaken : (k : ℕ) (ss : List ℕ) (ws : List (Waiting W)) → slice_get ss k ≡ Some t → barred bound k ws ≡ false → Rows P ss ws → Rows Q ss (overtaken k ws)
  rows_overtaken k [] [] e free h = absurd (none_some t e)
  rows_overtaken k [] (w ∷ ws) e free h = absurd h
  rows_overtaken k (s ∷ ss) [] e free h = absurd h
  rows_overtaken zero (s ∷ ss) (w ∷ ws) e free h =
      let same = some_same s t e in
      (others s w h.0 (omega arith), h.1, rows_with P Q (λ u. s < u) (λ u v p above. others u v p (omega arith)) ss ws h.1 h.2)
  rows_overtaken (suc k) (s ∷ ss) (w ∷ ws) e free h =
      let parts = or_parts (eqb w.count bound) (barred bound k ws) free in
      (older s w h.0 (all_nth (λ u. s < u) k ss t e h.1) (eqb-false w.count bound parts.0), h.1, rows_overtaken k ss ws e parts.1 h.2)
