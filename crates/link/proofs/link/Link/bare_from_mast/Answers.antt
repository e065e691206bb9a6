use Rattle.std.proofs.Common.{rules}
use Rattle.link.proofs.Turns.{mast_acts}
use Rattle.link.proofs.link.Link.bare_from_mast.Goals as goal

pub returns : goal.returns
returns g c = search (rules, mast_acts)
