use Rattle.std.proofs.Common.{sym, subst}
use Rattle.presence_journal.specs.History.{Begin}
use Rattle.tracker_shown.specs.Kept.{IsShownOf}
use Rattle.tracker_shown.proofs.OpeningLemmas.{opened}
use Rattle.tracker_shown.proofs.shown.Shown.of_start.Goals as goal

pub returns : goal.returns
returns c =
    subst (IsShownOf (Begin c.args.start.now)) (sym c.shown_of.ensures)
    (opened c.args.start.now (record { own = c.new-table.result.own; rows = c.put_up.new.rows }) c.new-table.result.rows c.live.result.now
    c.new-table.ensures.rows c.new-table.ensures.own c.live.ensures.live c.live.ensures.told c.in_ok-put_up.ensures)
