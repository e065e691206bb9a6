-- Numbers that start over: how far one lies after another.
use Rattle.std.proofs.Common.{◌≡◌, ℕ, refl, sym, ◌+◌, ◌-◌, ◌*◌, ◌/◌, ◌%◌, ◌<◌, ◌≤◌, ap, ◌∙◌, mod-lt, mod-eq_of_lt, arith}
use Rattle.std.proofs.Math.Nat.{mod-mod, add-mod-mod, mod-add-mod, add-mul-mod_self_left, mul-add-mod_self_left, div-add-mod}
use Rattle.protocol.specs.Windows.{LiesAfter, Releases, GoesTo}
use Rattle.protocol.specs.declared.Placement.TheVariants.{Outside}

module _ (m x y : ℕ) where
  apart : x ≤ y → y - x < m → y + (m - x % m) ≡ (y - x) + m * (x / m + 1)
  apart le lt =
      let p : 0 < m = omega arith in
      omega (arith, mod-lt x p, div-add-mod x m)

  -- y lies ahead of x by less than a cycle
  pub ahead : x ≤ y → y - x < m → (y % m + (m - x % m % m)) % m ≡ y - x
  ahead le lt = rw mod-mod (mod-add-mod y m (m - x % m)) ∙ ap (λ (k : ℕ). k % m) (apart le lt) ∙ add-mul-mod_self_left (y - x) m (x / m + 1) ∙ mod-eq_of_lt lt

  astern : y < x → x - y < m → y + (m - x % m) ≡ m * (x / m) + (m - (x - y))
  astern l lt =
      let p : 0 < m = omega arith in
      omega (arith, mod-lt x p, div-add-mod x m)

  -- y lies behind x by less than a cycle
  pub behind : y < x → x - y < m → (y % m + (m - x % m % m)) % m ≡ m - (x - y)
  behind l lt =
      let s : m - (x - y) < m = omega arith in
      rw mod-mod (mod-add-mod y m (m - x % m)) ∙ ap (λ (k : ℕ). k % m) (astern l lt) ∙ mul-add-mod_self_left m (x / m) (m - (x - y)) ∙ mod-eq_of_lt s

module _ (m x y : ℕ) where
  whole : 1 ≤ m → x + (y + (m - x % m)) ≡ y + m * (x / m + 1)
  whole some = omega (arith, mod-lt x some, div-add-mod x m)

  -- the distance of y after x leads from x to y
  pub lies_after : 1 ≤ m → LiesAfter m x y ((y + (m - x % m)) % m)
  lies_after some = record { below = mod-lt (y + (m - x % m)) some; leads = add-mod-mod x (y + (m - x % m)) m ∙ ap (λ (k : ℕ). k % m) (whole some) ∙ add-mul-mod_self_left y m (x / m + 1) }

  -- no other distance does
  only_one : (d e : ℕ) → LiesAfter m x y d → LiesAfter m x y e → d ≡ e
  only_one d e h i =
      let from = λ (k : ℕ) (l : k < m). ahead m x (x + k) (omega arith) (omega arith) in
      let same = ap (λ (k : ℕ). (k + (m - x % m % m)) % m) (h.leads ∙ sym i.leads) in
      omega (arith, from d h.below, from e i.below, same)

module _ (m : ℕ) where
  -- what an acknowledgement releases that lies d after low
  pub releases_all : (low held ack d : ℕ) → LiesAfter m low ack d → d ≤ held → Releases m low held ack d
  releases_all low held ack d h l = record { all = λ e i k. only_one m low ack d e h i; none = λ e i k. let same = only_one m low ack d e h i in absurd (omega arith) }

  pub releases_none : (low held ack : ℕ) → 1 ≤ m → held < (ack + (m - low % m)) % m → Releases m low held ack 0
  releases_none low held ack some l =
      let d : ℕ = (ack + (m - low % m)) % m in
      let h = lies_after m low ack some in
      record { all = λ e i k. let same = only_one m low ack d e h i in absurd (omega arith); none = λ e i k. refl }

  -- a number that lies as far after base as the window is wide stands for no slot
  pub goes_nowhere : (base window number d : ℕ) → LiesAfter m base number d → window ≤ d → GoesTo m base window number Outside
  goes_nowhere base window number d h l = λ e i. let same = only_one m base number d e h i in omega arith
