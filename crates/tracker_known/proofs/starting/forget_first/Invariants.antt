use Rattle.presence_journal_lists.specs.Standings.{first_list}
use Rattle.presence_journal_known.specs.LeftOut.{is_listed}
use Rattle.tracker_known.proofs.FadingLemmas.{StillLoses}
use Rattle.tracker_known.proofs.starting.forget_first.Given as goal

abbrev pub invariant-loop-name : goal.invariant-loop-name
invariant-loop-name l = StillLoses l.fn.set (is_listed (first_list l.first.entries)) (is_listed (first_list l.name-iterator)) l.set
