use Rattle.replica_status.specs.Table.{status_of}
use Rattle.presence_journal.specs.History.{is_gone}
use Rattle.presence_journal_lists.specs.Standings.{standing_at}
use Rattle.tracker_known.proofs.StandingLemmas.{any_of}
use Rattle.tracker_known.proofs.FadingLemmas.{StillLoses}
use Rattle.tracker_known.proofs.starting.forget_others.Given as goal

abbrev pub invariant-loop-replica : goal.invariant-loop-replica
invariant-loop-replica l = StillLoses l.fn.set (λ r. is_gone (status_of (standing_at l.others r))) (any_of (λ x. is_gone (status_of x)) l.replica-iterator) l.set
