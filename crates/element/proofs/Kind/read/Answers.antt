use Rattle.std.proofs.Common.{◌<◌, sym, rules}
use Rattle.std.proofs.ByRecursion.{All-from_get_or}
use Rattle.element.proofs.Kind.read.Goals as goal

pub returns-in-None-clause-only : goal.returns-in-None-clause-only
returns-in-None-clause-only g c =
    let bytes = All-from_get_or (λ b. b < 256) c.args.bytes.now 0 (λ i h. search rules) in
    (sym c.in-None.ensures, g.met.Self.Kind.only c.args.bytes.now c.in_ok-element.element bytes (search rules))
