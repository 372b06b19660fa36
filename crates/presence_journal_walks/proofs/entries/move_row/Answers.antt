use Rattle.std.specs.BTreeMap.{get}
use Rattle.std.proofs.lemmas.Result.{on_ok_weaker}
use Rattle.presence_base.specs.Order.{dot_cmp}
use Rattle.presence_journal.proofs.Lookups.{without_one, moved_one}
use Rattle.presence_journal_walks.proofs.entries.move_row.Goals as goal

pub returns-clause-rows : goal.returns-clause-rows
returns-clause-rows c = on_ok_weaker c.put_row.result (λ _. without_one (get dot_cmp c.args.rows.now) (get dot_cmp c.remove-row.new.self) c.args.dot.now (λ d. c.remove-row.ensures.updates.0 d)) c.put_row.ensures

pub returns-clause-taken : goal.returns-clause-taken
returns-clause-taken c =
    on_ok_weaker c.put_row.result
    (λ put. moved_one (get dot_cmp c.args.rows.now) (get dot_cmp c.args.taken.now) (get dot_cmp c.put_row.new.rows) c.args.dot.now c.remove-row.result c.under_dot-added.result c.remove-row.ensures.value c.under_dot-added.ensures put)
    c.put_row.ensures
