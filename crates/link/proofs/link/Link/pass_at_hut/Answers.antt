use Rattle.std.proofs.Common.{rules}
use Rattle.link.proofs.Turns.{hut_acts_alone}
use Rattle.link.proofs.link.Link.pass_at_hut.Goals as goal

pub returns : goal.returns
returns g c = search (rules, hut_acts_alone)
