use Rattle.std.specs.BTreeMap.{get}
use Rattle.presence_base.specs.Order.{replica_cmp}
use Rattle.presence_base.specs.declared.dots.Replica.{Replica}
use Rattle.dot_context.specs.Sets.{runs_at, runs_in, HasSome}
use Rattle.dot_context.proofs.LoopFacts.{Sweeping}
use Rattle.dot_context.proofs.replicas.sweep_all.Given as goal

abbrev pub invariant-loop-replica : goal.invariant-loop-replica
invariant-loop-replica l = record {
  some : (q : Replica) → HasSome (get replica_cmp l.replicas q);
  sweeping : (q : Replica) → Sweeping (runs_at l.fn.replicas q) (runs_at l.replicas q) (runs_in l.replica-iterator q) (runs_in l.others.entries q);
}
