-- How much a stream owes can be counted from what its two ends hold.
use Rattle.std.specs.Prelude.{◌==◌, ◌&&◌, nat_lt, cond}
use Rattle.std.proofs.Common.{◌≡◌, ℕ, ◌+◌, ◌-◌, ◌*◌, ◌%◌, ◌≤◌, length, ap, ◌∙◌, inl, inr, arith, length-drop}
use Rattle.std.proofs.Math.Nat.{mod-add-mod, add-mod_right}
use Rattle.std.proofs.lemmas.Bool.{cases_lt}
use Rattle.std.proofs.lemmas.Bool.Decides.{nat_tests}
use Rattle.protocol.specs.Windows.{cyclic}
use Rattle.protocol.specs.Machine.{Stream}
use Rattle.protocol.specs.Histories.{Log}
use Rattle.protocol.specs.Delivery.{owed}
use Rattle.protocol.specs.Laws.{AlwaysCounted, count_owed, placed_in}
use Rattle.protocol.proofs.Numbers.{ahead}
use Rattle.protocol.proofs.Relabel.{stream_mod}
use Rattle.protocol.proofs.Streams.{StreamInv}
use Rattle.protocol.proofs.Steps.{in_step, covered}
use Rattle.protocol.proofs.Ideal.{past_ideal, ideal_kept}

-- how far t lies after p, at most a whole cycle of m, can be counted from what the cycle leaves of both: it is their distance, and where
-- that is 0, it is a whole cycle if something is placed, and else nothing
count : (m p t placed : ℕ) → 1 ≤ m → p ≤ t → t ≤ p + m → placed ≤ t - p → (t ≡ p + m → 1 ≤ placed) →
    let d = (cyclic m).distance (p % m) (t % m) in cond (d == 0 && nat_lt 0 placed) m d ≡ t - p
count m p t placed some le near few whole = elim (cases_lt t (p + m)) [
  | inl h ↦ rw (ahead m p t le (omega arith)) (grind (arith, nat_tests))
  | inr h ↦
      let e : t ≡ p + m = omega arith in
      let round = ap (λ (k : ℕ). k % m) e ∙ add-mod_right p m in
      let filled = whole e in
      rw (round, ahead m p p (omega arith) (omega arith)) (grind (arith, nat_tests))
]

-- so can what a stream owes whose numbers never start over, from what a cycle of two windows or more leaves of its numbers: no more than
-- two windows are owed, and if as much as that, then a window's worth is placed, since no more than a window is held
counted : {E : Type 0} {n : ℕ} {s : Stream E} {log : Log E} (m : ℕ) → StreamInv n s log → 1 ≤ n → 2 * n ≤ m →
    count_owed m (stream_mod m s) ≡ length (owed log)
counted {s = s} {log = log} m g some wide =
    let r = s.receiver in
    let next = s.sender.low + length s.sender.held in
    let near = (in_step g).1 in
    let told = covered g s.sender.low r.base in
    let left = length-drop (length log.passed) log.accepted in
    rw (mod-add-mod s.sender.low m (length s.sender.held))
    (count m r.base next (placed_in r.slots) (omega arith) (omega arith) (omega arith) (omega arith) (λ e. omega arith) ∙ omega arith)

-- so it is of both streams of a drafted link, after every history
pub counts : {E F V W : Type 0} → AlwaysCounted E F V W
counts c d x y ok h =
    let i = ideal_kept x y ok h in
    let wide : 2 * c.terms.window ≤ c.terms.cycle = omega (arith, ok.out.cycle_least) in
    let back_wide : 2 * d.terms.window ≤ d.terms.cycle = omega (arith, ok.back.cycle_least) in
    rw (past_ideal x y ok h)
    (counted c.terms.cycle i.out ok.out.window_least wide, counted d.terms.cycle i.back ok.back.window_least back_wide)
