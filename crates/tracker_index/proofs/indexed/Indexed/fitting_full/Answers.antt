use Rattle.tracker_index.proofs.FittingLemmas.{full_fits, walked_fits}
use Rattle.tracker_index.proofs.indexed.Indexed.fitting_full.Goals as goal

pub returns-in-Done : goal.returns-in-Done
returns-in-Done c =
    let x = c.self.inside in
    full_fits c.args.form c.args.self.now x.journal x.parts c.fitting_told.result c.self.view_is c.in-Done.is c.self.invariant c.fitting_told.ensures

pub returns-in_ok-walk_set-in_default : goal.returns-in_ok-walk_set-in_default
returns-in_ok-walk_set-in_default c =
    let x = c.self.inside in
    let walked = c.in_ok-walk_set-in_default in
    walked_fits c.args.form c.args.self.now x.journal x.parts walked.field-0 c.fitting_told-in_default.result c.self.view_is walked.ensures c.fitting_told-in_default.ensures
