use Rattle.std.proofs.Common.{arith}
use Rattle.shelf.proofs.CellLaws.{written}
use Rattle.shelf.proofs.cells.write.Goals as goal

pub returns : goal.returns
returns c = rw c.copy_from_slice.ensures.after (written c.args.cell.now _ _ (omega arith))
