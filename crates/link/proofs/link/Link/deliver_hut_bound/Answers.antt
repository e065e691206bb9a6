use Rattle.std.proofs.Common.{rules}
use Rattle.link.proofs.Turns.{hut_hears_it}
use Rattle.link.proofs.link.Link.deliver_hut_bound.Goals as goal

pub returns : goal.returns
returns g c = search (rules, hut_hears_it)
