use Rattle.std.proofs.Common.{rules}
use Rattle.link.proofs.Turns.{mast_hears_it}
use Rattle.link.proofs.link.Link.repeat_mast_bound.Goals as goal

pub returns : goal.returns
returns g c = search (rules, mast_hears_it)
