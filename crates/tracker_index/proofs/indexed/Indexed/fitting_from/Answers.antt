use Rattle.tracker_index.proofs.FittingLemmas.{from_fits, all_fits}
use Rattle.tracker_index.proofs.indexed.Indexed.fitting_from.Goals as goal

pub returns-in-Some : goal.returns-in-Some
returns-in-Some c =
    let x = c.self.inside in
    from_fits c.args.form c.args.self.now x.journal x.parts c.args.count c.in_ok-kept.kept c.in-Some.told c.self.view_is c.requires c.self.invariant c.in_ok-kept.ensures c.in-Some.is

pub returns-in-None : goal.returns-in-None
returns-in-None c =
    let x = c.self.inside in
    all_fits c.args.form c.args.self.now x.journal x.parts c.args.count c.in_ok-kept.kept c.fitting_full.result c.self.view_is c.requires c.self.invariant c.in_ok-kept.ensures c.in-None.is c.fitting_full.ensures
