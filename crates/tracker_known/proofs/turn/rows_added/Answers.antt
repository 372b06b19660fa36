use Rattle.std.proofs.Common.{sym, ap, ◌∙◌, Some, None}
use Rattle.presence_journal.specs.declared.entry.Outcome.TheVariants.{Added, Replaced}
use Rattle.presence_journal.specs.History.{row_made, row_added}
use Rattle.tracker_known.proofs.GatherLemmas.{none_list, rest_adds, added_list}
use Rattle.tracker_known.proofs.Results.{if_ok}
use Rattle.tracker_known.proofs.turn.rows_added.Goals as goal

pub returns-in-Added : goal.returns-in-Added
returns-in-Added c =
    let e = c.args.entry.now in
    let new = c.get.result.now in
    let came = c.in-Added.is ∙ ap Added (sym c.get.ensures) in
    if_ok _ _ (λ v is. added_list (row_added e.step e.outcome) new (row_made e.step None) v.items (λ q. ap (λ o. row_added e.step o q) (sym came)) is)
    c.made_under.result c.made_under.ensures

pub returns-in-Replaced : goal.returns-in-Replaced
returns-in-Replaced c =
    let e = c.args.entry.now in
    let old = c.get-in-Replaced.result.now in
    let new = c.get-in-Replaced-2.result.now in
    let came = c.in-Replaced.is ∙ ap (λ d. Replaced d c.in-Replaced.old) (sym c.get-in-Replaced-2.ensures) ∙ ap (Replaced new) (sym c.get-in-Replaced.ensures) in
    if_ok _ _ (λ v is. added_list (row_added e.step e.outcome) new (row_made e.step (Some old)) v.items (λ q. ap (λ o. row_added e.step o q) (sym came)) is)
    c.made_under-in-Replaced.result c.made_under-in-Replaced.ensures

pub returns-in_default : goal.returns-in_default
returns-in_default c = none_list (row_added c.args.entry.now.step c.args.entry.now.outcome) c.new.result.items c.new.ensures.items (rest_adds c.args.entry.now.step c.args.entry.now.outcome c.in_default.not-Added c.in_default.not-Replaced)
