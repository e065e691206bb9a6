use Rattle.std.proofs.Common.{◌≡◌, drop}
use Rattle.board.specs.Boards.{all_posted}
use Rattle.board.proofs.Board.post_all.Given as goal

abbrev pub invariant-loop-element : goal.invariant-loop-element
invariant-loop-element g l = all_posted g.K.Kind.headline (drop l.element-index l.elements) l.self ≡ all_posted g.K.Kind.headline l.elements l.initial.self
