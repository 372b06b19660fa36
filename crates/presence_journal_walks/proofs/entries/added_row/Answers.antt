use Rattle.std.proofs.Common.{◌≡◌, ◌∙◌, ℕ, List, Bool, true, false, Option, None, cond, refl, sym, ap}
use Rattle.presence_base.specs.declared.row.Row.{Row}
use Rattle.presence_base.specs.Order.{same_dot}
use Rattle.presence_journal.specs.History.{row_added}
use Rattle.presence_journal.specs.declared.entry.Outcome.TheVariants.{Added, Replaced}
use Rattle.presence_journal.specs.Present.{of_topic}
use Rattle.presence_journal_walks.proofs.entries.added_row.Goals as goal

-- a row of the topic is chosen before or behind the choice
chosen : (topic : List ℕ) (b : Bool) (row : Option Row) → cond b (of_topic topic row) None ≡ of_topic topic (cond b row None)
chosen topic true row = refl
chosen topic false row = refl

pub returns-in_ok-row-in-Added : goal.returns-in_ok-row-in-Added
returns-in_ok-row-in-Added c = λ d.
    let new = c.get.result.now in
    let came = c.in-Added.is ∙ ap Added (sym c.get.ensures) in
    c.under_dot.ensures d
    ∙ ap (λ r. cond (same_dot d new) r None) c.in_ok-row-in-Added.ensures
    ∙ chosen c.args.topic.now (same_dot d new) _
    ∙ ap (λ o. of_topic c.args.topic.now (row_added c.args.entry.now.step o d)) (sym came)

pub returns-in_ok-row-in-Replaced : goal.returns-in_ok-row-in-Replaced
returns-in_ok-row-in-Replaced c = λ d.
    let new = c.get-in-Replaced-2.result.now in
    let came = c.in-Replaced.is ∙ ap (λ n. Replaced n c.in-Replaced.old) (sym c.get-in-Replaced-2.ensures) ∙ ap (Replaced new) (sym c.get-in-Replaced.ensures) in
    c.under_dot-in-Replaced.ensures d
    ∙ ap (λ r. cond (same_dot d new) r None) c.in_ok-row-in-Replaced.ensures
    ∙ chosen c.args.topic.now (same_dot d new) _
    ∙ ap (λ o. of_topic c.args.topic.now (row_added c.args.entry.now.step o d)) (sym came)
