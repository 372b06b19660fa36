use Rattle.std.proofs.Common.{drop}
use Rattle.presence_journal.specs.History.{Begin, onto}
use Rattle.presence_journal_known.specs.LeftOut.{LeavesOut, is_named}
use Rattle.presence_journal_known.proofs.leaving.leave_out_named.Given as goal

abbrev pub invariant-loop-entry : goal.invariant-loop-entry
invariant-loop-entry l = LeavesOut (onto (Begin l.start) l.entries) (is_named l.own (drop l.entry-index l.entries)) l.set
