use Rattle.std.proofs.Common.{rules, replicate}
use Rattle.link.proofs.Carried.{repeats}
use Rattle.link.proofs.end.End.repeat.Goals as goal

pub returns-clause-step : goal.returns-clause-step
returns-clause-step g c = repeats _ _ _ _ _ _ _ c.in_ok-n.n (replicate 32 0) c.repeat.new.area _ (search rules) c.hear.ensures
