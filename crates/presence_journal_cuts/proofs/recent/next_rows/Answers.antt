use Rattle.std.proofs.Common.{ap}
use Rattle.std.specs.BTreeMap.{get}
use Rattle.std.proofs.lemmas.Result.{on_ok_weaker}
use Rattle.presence_base.specs.Order.{dot_cmp}
use Rattle.presence_journal.specs.History.{Begin, onto}
use Rattle.presence_journal.specs.Walk.{is_reborn}
use Rattle.presence_journal_cuts.proofs.Histories.{next_again, next_plain, rest_is_plain}
use Rattle.presence_journal_cuts.proofs.recent.next_rows.Goals as goal

pub returns-in_ok-rows-in-Reborn : goal.returns-in_ok-rows-in-Reborn
returns-in_ok-rows-in-Reborn c = next_again c.args.entry.now (onto (Begin c.args.start.now) c.args.entries.now) (get dot_cmp c.args.rows.now) (get dot_cmp c.in_ok-rows-in-Reborn.field-0) c.requires (ap is_reborn c.in-Reborn.is) c.in_ok-rows-in-Reborn.ensures

pub returns-in_default : goal.returns-in_default
returns-in_default c =
    on_ok_weaker c.take_entry.result
    (λ put. next_plain c.args.entry.now (onto (Begin c.args.start.now) c.args.entries.now) (get dot_cmp c.args.rows.now) (get dot_cmp c.take_entry.new.rows) c.requires (rest_is_plain c.args.entry.now.outcome c.in_default.not-Reborn) put)
    c.take_entry.ensures
