use Rattle.wire.proofs.Readable.{readable}
use Rattle.wire.proofs.promises.Goals as goal

pub returns : goal.returns
returns g c =
    let x = g.met.X.Kind in
    let y = g.met.Y.Kind in
    let here = readable (g.X.Kind.coding) (g.X.Kind.example) x.inhabited x.narrow.1 x.exact x.returned in
    let there = readable (g.Y.Kind.coding) (g.Y.Kind.example) y.inhabited y.narrow.1 y.exact y.returned in
    record {
      readable = here;
      promises = λ t u ok k l m n s. c.promises.ensures _ _ (here _ _ _ _) (there _ _ _ _) ok s;
      counts = λ t u ok k l m n h. c.counts.ensures _ _ (here _ _ _ _) (there _ _ _ _) ok h;
    }
