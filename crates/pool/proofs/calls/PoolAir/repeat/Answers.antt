use Rattle.std.proofs.Common.{◌≡◌, arith, subst, sym}
use Rattle.std.proofs.lemmas.List.{get_or-map, length-map}
use Rattle.std.proofs.lemmas.Option.{slice_get-map, slice_get_read}
use Rattle.arrayvec.specs.ArrayVec.{with_items}
use Rattle.arrayvec.proofs.ArrayVecLemmas.{items-with_items}
use Rattle.air.specs.Places.{EachFine}
use Rattle.air.specs.Waiting.{overtaken}
use Rattle.air.proofs.FineLaws.{below_bound, each_overtaken}
use Rattle.air.proofs.StepLaws.{answer_free}
use Rattle.pool.specs.Entries.{frames_in}
use Rattle.pool.specs.Pools.{pool_state}
use Rattle.pool.proofs.calls.PoolAir.repeat.Goals as goal

-- before a place that is not barred, each count is below the bound, and so below 255
pub raise_counts-requires-clause-small : goal.raise_counts-requires-clause-small
raise_counts-requires-clause-small c = λ i d before.
    let p = c.args.self.now in
    let free = answer_free c.args.k (pool_state p) (grind arith) in
    let less = below_bound p.bound c.args.k i (frames_in p.waiting.items) p.each free.1 (omega arith) (omega arith) in
    grind (arith, get_or-map, length-map)

pub invariant_of-self-clause-each : goal.invariant_of-self-clause-each
invariant_of-self-clause-each c =
    let p = c.args.self.now in
    let ws = frames_in p.waiting.items in
    let free = answer_free c.args.k (pool_state p) (grind arith) in
    let is : frames_in (with_items p.waiting c.raise_counts.new.entries).items ≡ overtaken c.args.k ws = grind (arith, items-with_items) in
    subst (EachFine p.bound) (sym is) (each_overtaken p.bound c.args.k ws p.each free.1)

pub returns : goal.returns
returns c = grind (arith, items-with_items, length-map, slice_get-map, slice_get_read)
