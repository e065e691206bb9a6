use Rattle.std.proofs.Common.{rules, replicate}
use Rattle.link.proofs.Carried.{puts}
use Rattle.link.proofs.end.End.put.Goals as goal

pub returns-clause-step : goal.returns-clause-step
returns-clause-step g c =
    puts _ _ _ _ _ c.in_ok-n.n (replicate 32 0) c.write.new.area _ (search rules) (search rules) (search rules) (search rules) c.put.ensures.step
