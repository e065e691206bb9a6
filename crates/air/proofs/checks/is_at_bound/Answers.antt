use Rattle.air.proofs.StepLaws.{count_at_lem}
use Rattle.air.proofs.checks.is_at_bound.Goals as goal

pub returns : goal.returns
returns g c = rw (c.eq.ensures, c.count.ensures, count_at_lem c.args.i (g.A.Gauge.state c.args.air.now) c.requires, c.bound.ensures)
