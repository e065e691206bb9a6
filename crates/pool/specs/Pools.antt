-- The air that a pool means, and what holds of it.
use Rattle.std.proofs.Common.{arith}
use Rattle.std.proofs.ByRecursion.{All-from_get_or}
use Rattle.std.proofs.lemmas.List.{length-map}
use Rattle.air.specs.Waiting.{AirState}
use Rattle.air.specs.Steps.{Bytes, Fine, Sound}
use Rattle.air.specs.Places.{nothing}
use Rattle.pool.specs.declared.Pool.{Pool}
use Rattle.pool.specs.Entries.{frame_in, frames_in}

-- what a pool means
abbrev pub pool_state : Pool → AirState Bytes
pool_state p = record { waiting = frames_in p.waiting.items; capacity = 16; bound = p.bound }

-- what holds of every air holds of a pool
pub pool_sound : (p : Pool) → Sound (pool_state p)
pool_sound p =
    let n = length-map p.waiting.items frame_in in
    (omega arith, p.small, All-from_get_or (Fine p.bound) (frames_in p.waiting.items) nothing p.each)
