use Rattle.std.proofs.Common.{rules}
use Rattle.link.proofs.Carried.{sent}
use Rattle.link.proofs.end.End.send.Goals as goal

pub returns-clause-step : goal.returns-clause-step
returns-clause-step g c = sent _ _ _ _ _ _ _ _ (search rules) c.put.ensures.step
