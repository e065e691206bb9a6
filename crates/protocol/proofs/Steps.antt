-- In step, nothing lost, and covered by what the ends tell: what a stream's invariant gives.
use Rattle.std.proofs.Common.{◌≡◌, ℕ, zero, suc, ◌+◌, ◌-◌, ◌<◌, ◌≤◌, List, [], ◌∷◌, length, Some, None, Option, sym, ap, ◌∙◌, inl, inr, add-zero, add-suc, suc-add, arith, length-drop}
use Rattle.std.specs.List.{slice_get}
use Rattle.std.proofs.lemmas.Bool.{cases_lt}
use Rattle.air.proofs.Nth.{nth_within}
use Rattle.protocol.specs.Windows.{first_free}
use Rattle.protocol.specs.Machine.{Stream}
use Rattle.protocol.specs.Histories.{Log}
use Rattle.protocol.specs.Delivery.{InStep, Kept}
use Rattle.protocol.specs.Laws.{Covered, placed_in}
use Rattle.protocol.proofs.Slots.{Fits, nth_drop, free_le}
use Rattle.protocol.proofs.Streams.{StreamInv}

module _ {E : Type 0} where
  -- a slot before the first free one holds what was accepted under its number
  fits_at : (accepted : List E) (b : ℕ) (xs : List (Option E)) (d : ℕ) → Fits accepted b xs → d < first_free xs →
      slice_get xs d ≡ Some (slice_get accepted (b + d))
  fits_at accepted b (Some e ∷ xs) zero f h = rw add-zero (ap Some (sym f.0))
  fits_at accepted b (Some e ∷ xs) (suc d) f h = rw (add-suc, ← suc-add) (fits_at accepted (suc b) xs d f.1 (omega arith))
  fits_at accepted b xs d f h = absurd (omega arith)

  -- at least the slots before the first free one are filled
  free_placed : (xs : List (Option E)) → first_free xs ≤ placed_in xs
  free_placed (Some e ∷ xs) = omega (arith, free_placed xs)
  free_placed xs = omega arith

  -- and none whose number is past those accepted
  placed_fits : (accepted : List E) (b : ℕ) (xs : List (Option E)) → Fits accepted b xs → placed_in xs ≤ length accepted - b
  placed_fits accepted b [] f = omega arith
  placed_fits accepted b (None ∷ xs) f = omega (arith, placed_fits accepted (suc b) xs f)
  placed_fits accepted b (Some e ∷ xs) f = omega (arith, placed_fits accepted (suc b) xs f.1, nth_within accepted b e f.0)

module _ {E : Type 0} {n : ℕ} {s : Stream E} {log : Log E} (g : StreamInv n s log) where
  pub in_step : InStep n log
  in_step = (rw (← g.based) g.passed, omega (arith, free_le s.receiver.slots))

  pub kept : Kept s log
  kept i b l = elim (cases_lt i s.sender.low) [
    | inl h ↦
        let k : i - length log.passed < first_free s.receiver.slots = omega arith in
        let j : s.receiver.base + (i - length log.passed) ≡ i = omega arith in
        inr (fits_at log.accepted s.receiver.base s.receiver.slots (i - length log.passed) g.fits k ∙ ap (λ z. Some (slice_get log.accepted z)) j)
    | inr h ↦
        let k : i + length s.sender.held - length log.accepted ≡ i - s.sender.low = omega arith in
        let j : s.sender.low + (i - s.sender.low) ≡ i = omega arith in
        inl (omega arith, rw (k, g.held, nth_drop, j))
  ]

  -- whatever its numbers
  pub covered : (low base : ℕ) → Covered n (record { sender = record s.sender { low = low }; receiver = record s.receiver { base = base } }) log
  covered low base = record {
    enough = simp length-drop (omega (arith, free_placed s.receiver.slots));
    placed = simp length-drop (omega (arith, placed_fits log.accepted s.receiver.base s.receiver.slots g.fits));
    held = g.room;
  }
