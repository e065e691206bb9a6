use Rattle.std.proofs.Common.{rules, replicate}
use Rattle.link.proofs.Carried.{delivered}
use Rattle.link.proofs.end.End.deliver.Goals as goal

pub returns-clause-step : goal.returns-clause-step
returns-clause-step g c = delivered _ _ _ _ _ _ _ c.in_ok-n.n (replicate 32 0) c.take.new.area _ (search rules) c.hear.ensures
