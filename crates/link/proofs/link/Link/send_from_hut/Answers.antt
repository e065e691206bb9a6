use Rattle.std.proofs.Common.{rules}
use Rattle.link.proofs.Turns.{hut_acts}
use Rattle.link.proofs.link.Link.send_from_hut.Goals as goal

pub returns : goal.returns
returns g c = search (rules, hut_acts)
