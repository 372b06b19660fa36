use Rattle.std.specs.BTreeMap.{get}
use Rattle.std.specs.FinMap as map
use Rattle.presence_base.specs.Order.{dot_cmp}
use Rattle.presence_journal_cuts.proofs.PickedLemmas.{ArePicked}
use Rattle.presence_journal_cuts.proofs.recent.rows_of.Given as goal

abbrev pub invariant-loop-dot : goal.invariant-loop-dot
invariant-loop-dot l = ArePicked l.own (map.entries l.set.live) l.dot-iterator (get dot_cmp l.rows)
