-- A tight air and the air below it, by what `state` says that this one means.
use Rattle.std.specs.Prelude.{◌≡◌}
use Rattle.air.specs.Waiting.{AirState}
use Rattle.air.specs.Steps.{Bytes}
use Rattle.tight.specs.declared.Tight.{Tight}
use Rattle.tight.specs.Tights.{tight_state}

-- a tight air has the list of the air below, counts and all: none is capped
abbrev pub SameList : {A : Type 0} → (A → AirState Bytes) → Tight A → Type 0
SameList state t = (tight_state state t).waiting ≡ (state t.below).waiting

-- what a call on a tight air leaves as it was: the bound given, the room and the own bound of the air below, and, where the two lists are
-- the same, that they are
pub record Keeps {A : Type 0} (state : A → AirState Bytes) (before after : Tight A) : Type 0 where
  pub given : after.given ≡ before.given
  pub room : (state after.below).capacity ≡ (state before.below).capacity
  pub own : (state after.below).bound ≡ (state before.below).bound
  pub list : SameList state before → SameList state after
