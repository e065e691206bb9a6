use Rattle.std.proofs.Common.{rules}
use Rattle.link.proofs.Settles.{refused_so}
use Rattle.link.proofs.link.Link.settle.Goals as goal

pub returns-in_err-check_settle-clause-settles : goal.returns-in_err-check_settle-clause-settles
returns-in_err-check_settle-clause-settles g c = refused_so _ _ c.in_err-check_settle.field-0.0 _ _ _ (search rules) (search rules)
