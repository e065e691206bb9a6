use Rattle.std.proofs.Common.{rules}
use Rattle.air.proofs.HistoryLaws.{always_lawful, oldest_at_most}
use Rattle.air.proofs.overtaking.most_overtaken.Goals as goal

pub returns : goal.returns
returns g c =
    let most = oldest_at_most (g.A.Gauge.state c.args.air.now) in
    record { value = search rules; most = rw (c.unwrap_or.ensures, c.count.ensures) most; laws = always_lawful }
