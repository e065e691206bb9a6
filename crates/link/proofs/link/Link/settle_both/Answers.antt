use Rattle.std.proofs.Common.{refl}
use Rattle.link.proofs.Lists.{filled_both}
use Rattle.link.proofs.Phases.{kept_on, told_as}
use Rattle.link.proofs.Settles.{ends_face, settles, undergone}
use Rattle.link.proofs.link.Link.settle_both.Goals as goal

pub returns-clause-run : goal.returns-clause-run
returns-clause-run g c =
    undergone refl
    (kept_on c.empty.ensures.kept (kept_on c.flush-hut.ensures.run.kept c.report.ensures.kept))
    (kept_on c.empty-2.ensures.kept (kept_on c.flush-mast.ensures.run.kept c.report-2.ensures.kept))
    (told_as
    (filled_both c.pass_all-hut.result _ _ _ c.flush-hut.ensures.count.0 c.flush-hut.ensures.before)
    (filled_both c.pass_all-mast.result _ _ _ c.flush-mast.ensures.count.0 c.flush-mast.ensures.before)
    (settles (ends_face c.args.self.now) c.empty.ensures c.empty-2.ensures c.pass_all-mast.ensures.run c.pass_all-hut.ensures.run
    c.flush-hut.ensures.run c.flush-mast.ensures.run c.report.ensures c.report-2.ensures))
