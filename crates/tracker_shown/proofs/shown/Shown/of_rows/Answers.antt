use Rattle.std.proofs.Common.{sym, subst, ◌∙◌}
use Rattle.tracker_shown.specs.Kept.{IsShownOf}
use Rattle.tracker_shown.proofs.TurnLemmas.{shown_from}
use Rattle.tracker_shown.proofs.shown.Shown.of_rows.Goals as goal

pub returns : goal.returns
returns c = λ g mine is.
    subst (IsShownOf g) (sym c.shown_of.ensures)
    (shown_from g (record { own = c.new-table.result.own; rows = c.put_all.new.rows }) c.new-table.result.rows c.args.rows.now c.new-table.ensures.rows c.in_ok-put_all.ensures.ok
    (c.new-table.ensures.own ∙ mine) is)
