use Rattle.link.proofs.Phases.{flushes}
use Rattle.link.proofs.link.settling.flush.Goals as goal

pub returns-clause-run : goal.returns-clause-run
returns-clause-run g c = search flushes
