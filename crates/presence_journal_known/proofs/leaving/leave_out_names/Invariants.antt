use Rattle.presence_journal.specs.History.{Begin, onto}
use Rattle.presence_journal_lists.specs.Standings.{gone_list}
use Rattle.presence_journal_known.proofs.LeftLemmas.{LeavesRest}
use Rattle.presence_journal_known.proofs.leaving.leave_out_names.Given as goal

abbrev pub invariant-loop-name : goal.invariant-loop-name
invariant-loop-name l = LeavesRest (onto (Begin l.start) l.entries) (gone_list l.names.entries) (gone_list l.name-iterator) l.fn.set l.set
