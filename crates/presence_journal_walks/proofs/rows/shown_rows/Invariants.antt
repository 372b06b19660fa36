use Rattle.std.specs.BTreeMap.{get}
use Rattle.std.specs.FinMap as map
use Rattle.presence_base.specs.Order.{dot_cmp}
use Rattle.presence_journal.specs.History.{Begin, onto}
use Rattle.presence_journal_walks.proofs.ShownLemmas.{ArePicked, is_shown}
use Rattle.presence_journal_walks.proofs.rows.shown_rows.Given as goal

abbrev pub invariant-loop-dot : goal.invariant-loop-dot
invariant-loop-dot l = ArePicked (is_shown (onto (Begin l.start) l.entries) l.topic) (map.entries l.set.live) l.dot-iterator (get dot_cmp l.rows)
