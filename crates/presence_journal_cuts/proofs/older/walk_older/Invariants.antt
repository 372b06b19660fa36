use Rattle.presence_journal.proofs.Walking.{Reached}
use Rattle.presence_journal_cuts.proofs.Goings.{Gone}
use Rattle.presence_journal_cuts.proofs.older.walk_older.Given as goal

abbrev pub invariant-loop-entry : goal.invariant-loop-entry
invariant-loop-entry l = Reached l.journal l.entries l.entry-index (Gone l.last l.chains l.runs.items)
