use Rattle.tracker_index.proofs.IndexedLemmas.{cut_kept}
use Rattle.tracker_index.proofs.indexed.Indexed.cut.Goals as goal

pub returns-in-Done : goal.returns-in-Done
returns-in-Done c =
    let x = c.self.inside in
    cut_kept c.args.self.now x.journal x.parts c.set.result.now c.cut.result c.self.view_is c.in-Done.is c.self.invariant c.set.ensures c.cut.ensures.cut
