-- Bytes that hold an order are the bytes of that order.
use Rattle.std.specs.Prelude.{◌≡◌, ℕ, ◌<◌, List, [], ◌∷◌, Some}
use Rattle.std.proofs.Common.{arith}
use Rattle.std.specs.List.{AllByRecursion}
use Rattle.std.proofs.lemmas.Bool.Decides.{nat_tests}
use Rattle.element.specs.Orders.{order_written, order_value}
use Rattle.element.specs.declared.order.Order.{Order}

-- the only bytes that hold an order are its own
pub order_only : (bs : List ℕ) (e : Order) → AllByRecursion (λ b. b < 256) bs → order_value bs ≡ Some e → order_written e ≡ bs
order_only [] e h r = grind arith
order_only (t ∷ []) e h r = grind arith
order_only (t ∷ a ∷ []) e h r = grind arith
order_only (t ∷ a ∷ b ∷ []) e h r = grind arith
order_only (t ∷ a ∷ b ∷ c ∷ []) e h r = grind arith
order_only (t ∷ a ∷ b ∷ c ∷ d ∷ []) e h r = grind (arith, nat_tests)
order_only (t ∷ a ∷ b ∷ c ∷ d ∷ f ∷ bs) e h r = grind (arith, nat_tests)
