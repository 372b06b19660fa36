use Rattle.std.specs.BTreeMap.{get}
use Rattle.presence_base.specs.Order.{dot_cmp}
use Rattle.presence_journal_walks.proofs.ShownLemmas.{ArePicked, is_missing_in}
use Rattle.presence_journal_walks.proofs.rows.rows_without.Given as goal

abbrev pub invariant-loop-dot : goal.invariant-loop-dot
invariant-loop-dot l = ArePicked (is_missing_in (get dot_cmp l.others)) l.rows.entries l.dot-iterator (get dot_cmp l.kept)
