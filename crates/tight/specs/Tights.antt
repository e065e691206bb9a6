-- The air that a tight air means, over any air below it.
use Rattle.std.specs.Prelude.{ℕ, min, List, [], ◌∷◌, map}
use Rattle.std.proofs.Common.{arith}
use Rattle.std.proofs.lemmas.List.{length-map}
use Rattle.std.specs.List.{AllByRecursion}
use Rattle.air.specs.Waiting.{Waiting, AirState}
use Rattle.air.specs.Steps.{Bytes, Fine, Sound}
use Rattle.tight.specs.declared.Tight.{Tight}
use Rattle.tight.specs.Tightened.{capped, tightened}

-- what a tight air means; `state` tells what the air below means
abbrev pub tight_state : {A : Type 0} → (A → AirState Bytes) → Tight A → AirState Bytes
tight_state state t = tightened t.given (state t.below)

-- a fine frame is fine under any bound when its count is capped there
capped_fine : (own bound : ℕ) (ws : List (Waiting Bytes)) → AllByRecursion (Fine own) ws → AllByRecursion (Fine bound) (map (capped bound) ws)
capped_fine own bound [] all = tt
capped_fine own bound (w ∷ ws) all = ((all.0.0, all.0.1, all.0.2, omega arith), capped_fine own bound ws all.1)

-- what holds of every air holds of a tight one, if it does of the air below
pub tight_sound : (given : ℕ) (a : AirState Bytes) → Sound a → Sound (tightened given a)
tight_sound given a sound =
    let n = length-map a.waiting (capped (min given a.bound)) in
    let room = sound.0 in
    let small = sound.1 in
    (omega arith, omega arith, capped_fine a.bound (min given a.bound) a.waiting sound.2)
