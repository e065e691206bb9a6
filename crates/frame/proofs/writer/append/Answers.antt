use Rattle.std.proofs.Common.{rules}
use Rattle.octets.proofs.Fronts.{front_more}
use Rattle.frame.proofs.writer.append.Goals as goal

pub returns : goal.returns
returns c = search (rules, front_more)
