use Rattle.presence_journal.specs.History.{Begin, onto}
use Rattle.presence_journal_known.proofs.LeftLemmas.{LeavesRest}
use Rattle.presence_journal_known.proofs.leaving.leave_out_others.Given as goal

abbrev pub invariant-loop-replica : goal.invariant-loop-replica
invariant-loop-replica l = LeavesRest (onto (Begin l.start) l.entries) l.others.entries l.replica-iterator l.fn.set l.set
