use Rattle.air.proofs.StepLaws.{repeated_lost}
use Rattle.air.proofs.Air.take.Goals as goal

-- what was repeated can be lost
pub returns-in_err-lose : goal.returns-in_err-lose
returns-in_err-lose g c =
    let s = g.Self.Gauge.state in
    absurd (repeated_lost c.args.k c.in_ok-n.n (s c.args.self.now) (s c.repeat.new.self) (s c.lose.new.self) c.args.area.now c.repeat.new.area c.in_err-lose.field-0.0 (cc (c.in_ok-n.was, c.repeat.ensures)) (cc (c.in_err-lose.was, c.lose.ensures)))
