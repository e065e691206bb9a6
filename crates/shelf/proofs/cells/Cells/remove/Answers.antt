use Rattle.std.proofs.Common.{map, ap, ◌∙◌, arith}
use Rattle.air.proofs.Places.{map-without}
use Rattle.shelf.specs.Cells.{frame_in}
use Rattle.shelf.proofs.CellLaws.{closed_up}
use Rattle.shelf.proofs.cells.Cells.remove.Goals as goal

pub returns-clause-frames : goal.returns-clause-frames
returns-clause-frames c =
    let t = c.args.self.now in
    ap (map frame_in) (closed_up c.args.k t.used t.memory.now _ c.requires (omega arith) c.rotate_left.ensures.after) ∙ map-without frame_in _ _
