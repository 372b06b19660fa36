use Rattle.std.specs.BTreeMap.{get}
use Rattle.presence_base.specs.Order.{replica_cmp}
use Rattle.presence_base.specs.declared.dots.Replica.{Replica}
use Rattle.dot_context.specs.Sets.{runs_at, runs_in, HasSome}
use Rattle.dot_context.proofs.LoopFacts.{Filling}
use Rattle.dot_context.proofs.replicas.fill_all.Given as goal

abbrev pub invariant-loop-replica : goal.invariant-loop-replica
invariant-loop-replica l = record {
  some : (q : Replica) → HasSome (get replica_cmp l.replicas q);
  filling : (q : Replica) → Filling (runs_at l.fn.replicas q) (runs_at l.replicas q) (runs_in l.replica-iterator q) (runs_in l.others.entries q);
}
