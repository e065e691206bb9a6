use Rattle.std.proofs.Common.{rules}
use Rattle.frame.proofs.ReadLaws.{read_laws}
use Rattle.frame.proofs.reader.read.Goals as goal

pub returns-in_err-parts : goal.returns-in_err-parts
returns-in_err-parts g c =
    let laws = read_laws c.args.format g.K.Kind.coding.width c.args.bytes.now (λ e. e.now) c.from_residual.result (λ i h. search rules) (search rules) in
    search rules

pub returns : goal.returns
returns g c =
    let laws = read_laws c.args.format g.K.Kind.coding.width c.args.bytes.now (λ e. e.now) c.frame.result (λ i h. search rules) (search rules) in
    search rules
