use Rattle.std.proofs.Common.{rules}
use Rattle.link.proofs.Carried.{bared}
use Rattle.link.proofs.end.End.bare.Goals as goal

pub returns-clause-step : goal.returns-clause-step
returns-clause-step g c = bared _ _ _ _ _ _ _ (search rules) c.put.ensures.step
