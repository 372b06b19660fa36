use Rattle.replica_status.specs.Boards.{standing_in}
use Rattle.tracker_known.specs.Picks.{drops}
use Rattle.tracker_known.proofs.StandingLemmas.{any_of}
use Rattle.tracker_known.proofs.GatherLemmas.{Still}
use Rattle.tracker_known.proofs.turn.gather_dropped.Given as goal

abbrev pub invariant-loop-replica : goal.invariant-loop-replica
invariant-loop-replica l = Still l.set.live (λ d. any_of (drops l.time) l.replica-iterator d.replica) l.rows (λ d. drops l.time (standing_in l.standings d.replica)) l.fn.rows
