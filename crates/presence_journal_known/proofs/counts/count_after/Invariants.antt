use Rattle.presence_journal.specs.History.{Begin, onto}
use Rattle.presence_journal.proofs.Walking.{Reached, IsCounted}
use Rattle.presence_journal_known.proofs.counts.count_after.Given as goal

abbrev pub invariant-loop-entry : goal.invariant-loop-entry
invariant-loop-entry l = Reached (onto (Begin l.start) l.entries) l.entries l.entry-index (IsCounted l.used)
