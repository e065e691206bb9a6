use Rattle.std.proofs.Common.{sym, subst, arith}
use Rattle.air.specs.Places.{EachFine}
use Rattle.air.proofs.FineLaws.{each_push, fine_fresh}
use Rattle.air.proofs.StepLaws.{put_free}
use Rattle.shelf.specs.Shelves.{shelf_state}
use Rattle.shelf.proofs.calls.ShelfAir.put.Goals as goal

pub invariant_of-self-clause-each : goal.invariant_of-self-clause-each
invariant_of-self-clause-each c =
    let s = c.args.self.now in
    let may = put_free c.args.bytes.now (shelf_state s) (grind arith) in
    subst (EachFine s.bound) (sym c.push.ensures.frames) (each_push s.bound _ _ s.each (fine_fresh s.bound _ may.0 may.1 (λ i. omega (arith, c.type_inv.bytes i))))
