use Rattle.std.proofs.Common.{arith}
use Rattle.std.proofs.lemmas.Grind.{common_steps}
use Rattle.board.proofs.Posts.{shows_all}
use Rattle.board.proofs.Board.post_all.Goals as goal

pub returns-clause-sequence : goal.returns-clause-sequence
returns-clause-sequence g c = shows_all g.K.Kind.headline c.args.elements.now c.args.self.now c.loop-element.self (grind (arith, common_steps))
