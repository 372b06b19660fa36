use Rattle.std.proofs.Common.{Some, None, refl, subst}
use Rattle.presence_journal_cuts.specs.Changes.{IsLinkOf}
use Rattle.presence_journal_cuts.proofs.ChangeLemmas.{changes_plain, changes_linked}
use Rattle.presence_journal_cuts.proofs.change.change_of.Goals as goal

pub returns-in_default : goal.returns-in_default
returns-in_default c =
    let m = c.args.chains.now in
    let e = c.args.entry.now in
    changes_plain c.args.last c.args.unsettled m e (record { row = c.in_ok-row.row; link = None; gone = c.in_ok-gone.gone }) c.in_ok-row.ensures refl
    (subst (IsLinkOf c.args.unsettled e.outcome m) c.in_default.is c.in_ok-link.ensures) c.in_ok-gone.ensures.counts (c.in_ok-gone.ensures.kept c.requires)

pub returns : goal.returns
returns c =
    let m = c.args.chains.now in
    let e = c.args.entry.now in
    let l = c.in-Some.link in
    changes_linked c.args.last c.args.unsettled m e (record { row = c.in_ok-row.row; link = Some l; gone = c.in_ok-gone-2.gone }) l c.requires c.in_ok-row.ensures refl
    (subst (IsLinkOf c.args.unsettled e.outcome m) c.in-Some.is c.in_ok-link.ensures) c.in_ok-gone-2.ensures
