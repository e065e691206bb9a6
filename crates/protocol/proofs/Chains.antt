-- Lists of waiting frames, oldest first: what holds of each, and of each with every younger one.
use Rattle.std.proofs.Common.{◌≡◌, ℕ, zero, suc, false, eqb, List, [], ◌∷◌, ◌++◌, Some, sym, subst}
use Rattle.std.specs.List.{AllByRecursion, slice_get}
use Rattle.std.proofs.ByRecursion.{All-push, All-weaker}
use Rattle.std.proofs.lemmas.Bool.{eqb-false, or_parts}
use Rattle.air.specs.Waiting.{Waiting, without, raised, overtaken, barred}
use Rattle.air.proofs.Nth.{some_same, all_nth, all_without}

-- P of each, and R of each with every younger one
abbrev pub Chain : {A : Type 0} → (A → Type 0) → (A → A → Type 0) → List A → Type 0
Chain P R [] = Unit {0}
Chain P R (x ∷ xs) = P x × AllByRecursion (R x) xs × Chain P R xs

module _ {A : Type 0} (P : A → Type 0) (R : A → A → Type 0) where
  pub chain_all : (xs : List A) → Chain P R xs → AllByRecursion P xs
  chain_all [] h = tt
  chain_all (x ∷ xs) h = (h.0, chain_all xs h.2)

  pub chain_push : (xs : List A) (y : A) → Chain P R xs → AllByRecursion (λ x. R x y) xs → P y → Chain P R (xs ++ (y ∷ []))
  chain_push [] y h a q = (q, tt, tt)
  chain_push (x ∷ xs) y h a q = (h.0, All-push (R x) xs y h.1 a.0, chain_push xs y h.2 a.1 q)

  pub chain_without : (k : ℕ) (xs : List A) → Chain P R xs → Chain P R (without k xs)
  chain_without k [] h = tt
  chain_without zero (x ∷ xs) h = h.2
  chain_without (suc k) (x ∷ xs) h = (h.0, all_without (R x) k xs h.1, chain_without k xs h.2)

  -- what holds of each may become Q, where S holds of each too
  pub chain_with : (Q S : A → Type 0) → ((x : A) → P x → S x → Q x) → (xs : List A) → AllByRecursion S xs → Chain P R xs → Chain Q R xs
  chain_with Q S f [] s h = tt
  chain_with Q S f (x ∷ xs) s h = (f x h.0 s.0, h.1, chain_with Q S f xs s.1 h.2)

  pub chain_weaker : (Q : A → Type 0) → ((x : A) → P x → Q x) → (xs : List A) → Chain P R xs → Chain Q R xs
  chain_weaker Q f xs h = chain_with Q P (λ x p q. f x p) xs (chain_all xs h) h

module _ {W : Type 0} where
  pub all_overtaken : (P : Waiting W → Type 0) → ((x : Waiting W) → P x → P (raised x)) → (k : ℕ) (xs : List (Waiting W)) → AllByRecursion P xs → AllByRecursion P (overtaken k xs)
  all_overtaken P f zero xs h = h
  all_overtaken P f (suc k) [] h = tt
  all_overtaken P f (suc k) (x ∷ xs) h = (f x h.0, all_overtaken P f k xs h.1)

  -- frame p, at place k, is answered past older ones of which none is at the bound
  module _ (P Q : Waiting W → Type 0) (R : Waiting W → Waiting W → Type 0) (bound : ℕ) (p : Waiting W)
      (older : (x : Waiting W) → P x → R x p → (x.count ≡ bound → ⊥) → Q (raised x))
      (self : P p → Q p)
      (younger : (x : Waiting W) → P x → R p x → Q x)
      (left : (x y : Waiting W) → R x y → R (raised x) y)
      (right : (x y : Waiting W) → R x y → R x (raised y)) where
    pub chain_overtaken : (k : ℕ) (xs : List (Waiting W)) → slice_get xs k ≡ Some p → barred bound k xs ≡ false → Chain P R xs → Chain Q R (overtaken k xs)
    chain_overtaken zero [] e free h = tt
    chain_overtaken (suc k) [] e free h = tt
    chain_overtaken zero (x ∷ xs) e free h =
        let same = some_same x p e in (
          subst Q (sym same) (self (subst P same h.0)),
          h.1,
          chain_with P R Q (R x) (λ y q s. younger y q (subst (λ z. R z y) same s)) xs h.1 h.2,
        )
    chain_overtaken (suc k) (x ∷ xs) e free h =
        let parts = or_parts (eqb x.count bound) (barred bound k xs) free in (
          older x h.0 (all_nth (R x) k xs p e h.1) (eqb-false x.count bound parts.0),
          all_overtaken (R (raised x)) (right (raised x)) k xs (All-weaker (R x) (R (raised x)) (left x) xs h.1),
          chain_overtaken k xs e parts.1 h.2,
        )
