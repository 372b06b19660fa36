use Rattle.std.specs.BTreeMap.{get}
use Rattle.presence_base.specs.Order.{dot_cmp}
use Rattle.presence_journal_cuts.proofs.RebirthLemmas.{AreCopied}
use Rattle.presence_journal_cuts.proofs.rows.copied.Given as goal

abbrev pub invariant-loop-dot : goal.invariant-loop-dot
invariant-loop-dot l = AreCopied l.fn.rows l.dot-iterator (get dot_cmp l.map)
