use Rattle.std.proofs.Common.{rules}
use Rattle.link.proofs.Turns.{mast_acts_alone}
use Rattle.link.proofs.link.Link.pass_at_mast.Goals as goal

pub returns : goal.returns
returns g c = search (rules, mast_acts_alone)
