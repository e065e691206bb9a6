use Rattle.std.proofs.Common.{rules}
use Rattle.frame.proofs.Hears.{wrote}
use Rattle.frame.proofs.writer.write.Goals as goal

pub returns : goal.returns
returns g c =
    let laws = g.met.K.Kind in
    let after = wrote g.K.Kind.coding c.args.format laws.exact laws.returned c.args.frame.now _ c.args.area.now c.write_by.new.area (search rules) (search rules) laws.narrow.1 (search rules) c.write_by.ensures in
    search (rules, after)
