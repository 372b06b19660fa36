use Rattle.tracker_index.proofs.IndexedLemmas.{told_kept, told_all}
use Rattle.tracker_index.proofs.indexed.Indexed.told_from.Goals as goal

pub returns-in-Some : goal.returns-in-Some
returns-in-Some c =
    let x = c.self.inside in
    told_kept c.args.form c.args.self.now x.journal x.parts c.args.count c.in_ok-kept.kept c.in-Some.told c.self.view_is c.requires c.self.invariant c.in_ok-kept.ensures c.in-Some.is

pub returns-in-None : goal.returns-in-None
returns-in-None c =
    let x = c.self.inside in
    told_all c.args.form c.args.self.now x.journal x.parts c.args.count c.in_ok-kept.kept c.full.result c.self.view_is c.requires c.self.invariant c.in_ok-kept.ensures c.in-None.is c.full.ensures
