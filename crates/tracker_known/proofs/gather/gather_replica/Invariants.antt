use Rattle.presence_base.specs.Order.{same_replica}
use Rattle.tracker_known.proofs.GatherLemmas.{Still, keyed_by}
use Rattle.tracker_known.proofs.gather.gather_replica.Given as goal

abbrev pub invariant-loop-dot : goal.invariant-loop-dot
invariant-loop-dot l = Still l.set.live (keyed_by l.dot-iterator) l.rows (λ q. same_replica q.replica l.replica) l.fn.rows
