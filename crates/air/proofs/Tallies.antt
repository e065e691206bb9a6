-- How often a serial number occurs, departs and is overtaken.
use Rattle.std.proofs.Common.{◌≡◌, ℕ, zero, suc, ◌+◌, ◌<◌, ◌≤◌, cond, eqb, List, [], ◌∷◌, ◌++◌, length, Some, refl, arith}
use Rattle.std.specs.List.{AllByRecursion, slice_get}
use Rattle.std.proofs.lemmas.Bool.{cond_both, eq-eqb, le-ltb}
use Rattle.std.proofs.lemmas.Bool.Decides.{nat_tests}
use Rattle.air.specs.Waiting.{without}
use Rattle.air.specs.Steps.{Bytes}
use Rattle.air.specs.Histories.{Event, was_lost, was_taken, was_repeated, occurrences, departures, overtakes, overtakings, Genuine}
use Rattle.air.proofs.Nth.{none_some, some_same, nth_within}

pub occurrences_push : (s t : ℕ) (ss : List ℕ) → occurrences s (ss ++ (t ∷ [])) ≡ occurrences s ss + cond (eqb s t) 1 0
occurrences_push s t [] = omega arith
occurrences_push s t (u ∷ ss) = omega (arith, occurrences_push s t ss)

pub occurrences-without : (s t k : ℕ) (ss : List ℕ) → slice_get ss k ≡ Some t → occurrences s ss ≡ cond (eqb s t) 1 0 + occurrences s (without k ss)
occurrences-without s t k [] e = absurd (none_some t e)
occurrences-without s t zero (u ∷ ss) e = rw (some_same u t e)
occurrences-without s t (suc k) (u ∷ ss) e = omega (arith, occurrences-without s t k ss e)

-- what is at most n, where it counts at all
pub counted_at_most : (d n : ℕ) → cond (eqb d 0) n 0 ≤ n
counted_at_most d n = cond_both (eqb d 0) n 0 (λ m. m ≤ n) (λ _. omega arith) (λ _. omega arith)

-- what overtakes a frame overtakes each older one
overtakes_fall : (s t : ℕ) → s < t → (e : Event) → overtakes t e ≤ overtakes s e
overtakes_fall s t l (was_lost u) = omega arith
overtakes_fall s t l (was_taken u bs) = grind (arith, nat_tests)
overtakes_fall s t l (was_repeated u bs) = grind (arith, nat_tests)

-- a frame that has not departed has been overtaken as often as each younger one, or more often
pub overtakings_fall : (s t : ℕ) → s < t → (es : List Event) → departures s es ≡ 0 → overtakings t es ≤ overtakings s es
overtakings_fall s t l [] d = omega arith
overtakings_fall s t l (e ∷ es) d =
    let waits : departures s es ≡ 0 = omega arith in
    rw (eq-eqb (departures s es) 0 waits) (omega (arith, overtakings_fall s t l es waits, overtakes_fall s t l e, counted_at_most (departures t es) (overtakes t e)))

-- what has yet to be put is overtaken by nothing
overtakes_none : (put_frames : List Bytes) (s : ℕ) → length put_frames ≤ s → (e : Event) → Genuine put_frames e → overtakes s e ≡ 0
overtakes_none put_frames s l (was_lost t) g = refl
overtakes_none put_frames s l (was_taken t bs) g = let below = nth_within put_frames t bs g in rw (le-ltb s t (omega arith))
overtakes_none put_frames s l (was_repeated t bs) g = let below = nth_within put_frames t bs g in rw (le-ltb s t (omega arith))

pub overtakings_none : (put_frames : List Bytes) (s : ℕ) → length put_frames ≤ s → (es : List Event) → AllByRecursion (Genuine put_frames) es → overtakings s es ≡ 0
overtakings_none put_frames s l [] g = refl
overtakings_none put_frames s l (e ∷ es) g =
    omega (arith, overtakings_none put_frames s l es g.1, overtakes_none put_frames s l e g.0, counted_at_most (departures s es) (overtakes s e))
