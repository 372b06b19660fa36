use Rattle.presence_journal.specs.History.{Begin, onto}
use Rattle.presence_journal.proofs.Walking.{Reached}
use Rattle.presence_journal_known.proofs.StatusLemmas.{Stands}
use Rattle.presence_journal_known.proofs.statuses.standing_after.Given as goal

abbrev pub invariant-loop-entry : goal.invariant-loop-entry
invariant-loop-entry l = Reached (onto (Begin l.start) l.entries) l.entries l.entry-index (Stands l.own l.replica l.time l.standing)
