use Rattle.std.proofs.Common.{◌≡◌, ℕ, List, arith, ap, ◌∙◌, subst, sym}
use Rattle.std.specs.List.{remove}
use Rattle.std.proofs.lemmas.List.{drop-map, map-append, take-map}
use Rattle.air.specs.Waiting.{without}
use Rattle.air.specs.Places.{EachFine}
use Rattle.air.proofs.FineLaws.{each_without}
use Rattle.air.proofs.Places.{without_is}
use Rattle.pool.specs.declared.entry.Entry.{Entry}
use Rattle.pool.specs.Entries.{frames_in}
use Rattle.pool.proofs.calls.PoolAir.lose.Goals as goal

-- to remove an entry is to lose its frame
frames_without : (k : ℕ) (entries : List Entry) → frames_in (remove entries k) ≡ without k (frames_in entries)
frames_without k entries = rw without_is (simp (map-append, take-map, drop-map))

pub invariant_of-self-clause-each : goal.invariant_of-self-clause-each
invariant_of-self-clause-each c =
    let p = c.args.self.now in
    let is = ap frames_in c.remove.ensures.items ∙ frames_without c.args.k p.waiting.items in
    subst (EachFine p.bound) (sym is) (each_without p.bound c.args.k (frames_in p.waiting.items) p.each)

pub returns : goal.returns
returns c = grind (arith, frames_without)
