use Rattle.replica_status.specs.Boards.{standing_in}
use Rattle.tracker_known.specs.Steps.{fades}
use Rattle.tracker_known.proofs.FadingLemmas.{StillLoses}
use Rattle.tracker_known.proofs.StandingLemmas.{any_of}
use Rattle.tracker_known.proofs.fading.forget_faded.Given as goal

abbrev pub invariant-loop-replica : goal.invariant-loop-replica
invariant-loop-replica l = StillLoses l.fn.set (λ r. fades l.time (standing_in l.standings r)) (any_of (fades l.time) l.replica-iterator) l.set
