use Rattle.std.proofs.Common.{sym, subst}
use Rattle.air.specs.Places.{EachFine}
use Rattle.air.proofs.FineLaws.{each_without}
use Rattle.shelf.proofs.calls.ShelfAir.lose.Goals as goal

pub invariant_of-self-clause-each : goal.invariant_of-self-clause-each
invariant_of-self-clause-each c =
    let s = c.args.self.now in
    subst (EachFine s.bound) (sym c.remove.ensures.frames) (each_without s.bound _ _ s.each)
