use Rattle.std.proofs.Common.{sym, subst}
use Rattle.std.specs.BTreeMap.{get}
use Rattle.presence_base.specs.Order.{dot_cmp}
use Rattle.presence_journal.specs.History.{History}
use Rattle.presence_journal.specs.Walk.{shown_of}
use Rattle.presence_journal_known.specs.ByDot.{Alike}
use Rattle.presence_journal_walks.proofs.pending.diff_fresh.Goals as goal

pub returns-clause-rows : goal.returns-clause-rows
returns-clause-rows c = λ h legal whole before. subst (λ (g : History). Alike (get dot_cmp c.in_ok-after.after) (shown_of g c.args.topic.now)) (sym whole) c.in_ok-after.ensures

pub returns-clause-diff : goal.returns-clause-diff
returns-clause-diff c = λ h legal whole before.
    c.in_ok-diff.ensures h c.args.entry.now c.args.topic.now before (subst (λ (g : History). Alike (get dot_cmp c.in_ok-after.after) (shown_of g c.args.topic.now)) (sym whole) c.in_ok-after.ensures)
