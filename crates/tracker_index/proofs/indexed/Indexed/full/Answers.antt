use Rattle.tracker_index.proofs.IndexedLemmas.{full_kept, full_walked}
use Rattle.tracker_index.proofs.indexed.Indexed.full.Goals as goal

pub returns-in-Done : goal.returns-in-Done
returns-in-Done c = let x = c.self.inside in full_kept c.args.form c.args.self.now x.journal x.parts c.told.result c.self.view_is c.in-Done.is c.self.invariant c.told.ensures

pub returns-in_ok-walk_set-in_default : goal.returns-in_ok-walk_set-in_default
returns-in_ok-walk_set-in_default c =
    let x = c.self.inside in
    let walked = c.in_ok-walk_set-in_default in
    full_walked c.args.form c.args.self.now x.journal x.parts walked.field-0 c.told-in_default.result c.self.view_is walked.ensures c.told-in_default.ensures.full
