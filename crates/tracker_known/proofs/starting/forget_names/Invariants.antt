use Rattle.presence_journal_lists.specs.Standings.{gone_list}
use Rattle.presence_journal_known.specs.LeftOut.{is_listed}
use Rattle.tracker_known.proofs.FadingLemmas.{StillLoses}
use Rattle.tracker_known.proofs.starting.forget_names.Given as goal

abbrev pub invariant-loop-name : goal.invariant-loop-name
invariant-loop-name l = StillLoses l.fn.set (is_listed (gone_list l.names.entries)) (is_listed (gone_list l.name-iterator)) l.set
