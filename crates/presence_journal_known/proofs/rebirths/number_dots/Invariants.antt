use Rattle.presence_journal_known.proofs.NumberedLemmas.{AreNumbered}
use Rattle.presence_journal_known.proofs.rebirths.number_dots.Given as goal

abbrev pub invariant-loop-dot : goal.invariant-loop-dot
invariant-loop-dot l = AreNumbered l.replica l.fn.rows l.dot-iterator l.pairs.items l.count
