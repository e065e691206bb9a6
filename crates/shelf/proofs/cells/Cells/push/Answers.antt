use Rattle.std.proofs.Common.{◌++◌, [], ◌∷◌, map, ap, ◌∙◌, arith}
use Rattle.std.proofs.lemmas.List.{map_push, take_more_set}
use Rattle.shelf.specs.Cells.{frame_in}
use Rattle.shelf.specs.Shelves.{frames_of}
use Rattle.shelf.proofs.cells.Cells.push.Goals as goal

pub returns-clause-frames : goal.returns-clause-frames
returns-clause-frames c =
    let t = c.args.self.now in
    ap (map frame_in) (take_more_set t.memory.now t.used _ (omega arith)) ∙ map_push frame_in _ _ ∙ ap (λ w. frames_of t ++ (w ∷ [])) c.write.ensures
