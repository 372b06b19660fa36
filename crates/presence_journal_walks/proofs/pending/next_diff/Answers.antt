use Rattle.std.proofs.Common.{sym, ◌∙◌}
use Rattle.std.specs.BTreeMap.{get}
use Rattle.std.proofs.lemmas.Result.{on_ok_weaker}
use Rattle.presence_base.specs.Order.{dot_cmp}
use Rattle.presence_journal.proofs.Walking.{shows_more}
use Rattle.presence_journal_walks.proofs.pending.next_diff.Goals as goal

pub returns-then-is_callers-clause-rows : goal.returns-then-is_callers-clause-rows
returns-then-is_callers-clause-rows c =
    on_ok_weaker c.diff_entry.result
    (λ after h legal whole before. shows_more (get dot_cmp c.args.rows.now) (get dot_cmp c.diff_entry.new.rows) c.args.topic.now h c.args.entry.now legal (sym c.is_callers.ensures ∙ c.if-is_callers.true) after before)
    c.diff_entry.ensures.rows
