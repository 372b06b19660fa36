use Rattle.std.specs.BTreeMap.{get}
use Rattle.presence_base.specs.Order.{dot_cmp}
use Rattle.presence_journal.proofs.Lookups.{get_put_at}
use Rattle.presence_journal_cuts.proofs.recent.put_row.Goals as goal

pub returns-in_ok-insert-clause-ok : goal.returns-in_ok-insert-clause-ok
returns-in_ok-insert-clause-ok c = get_put_at (get dot_cmp c.args.rows.now) (get dot_cmp c.insert.new.self) c.in-Some.dot c.in-Some.row c.args.added c.in-Some.is (λ d. c.in_ok-insert.ensures.updates.0 d)
