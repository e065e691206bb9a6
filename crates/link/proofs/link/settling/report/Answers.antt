use Rattle.link.proofs.Phases.{reports}
use Rattle.link.proofs.link.settling.report.Goals as goal

pub returns : goal.returns
returns g c = search reports
