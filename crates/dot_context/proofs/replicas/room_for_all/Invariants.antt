use Rattle.std.proofs.Common.{◌≡◌, ℕ, true, ◌||◌}
use Rattle.std.specs.BTreeMap.{get}
use Rattle.presence_base.specs.Order.{replica_cmp}
use Rattle.presence_base.specs.declared.dots.Replica.{Replica}
use Rattle.dot_context.specs.Runs.{Opens, begins, has_room}
use Rattle.dot_context.specs.Sets.{runs_at, runs_in, HasSome}
use Rattle.dot_context.proofs.replicas.room_for_all.Given as goal

abbrev pub invariant-loop-replica : goal.invariant-loop-replica
invariant-loop-replica l = record {
  some : (q : Replica) → HasSome (get replica_cmp l.replicas q);
  opens : (q : Replica) → Opens (runs_at l.fn.replicas q) (runs_at l.replicas q) (begins (runs_in l.others.entries q));
  done : (q : Replica) (g : ℕ) → begins (runs_in l.others.entries q) g ≡ true → (has_room (runs_at l.replicas q) g || begins (runs_in l.replica-iterator q) g) ≡ true;
  asks : (q : Replica) (g : ℕ) → begins (runs_in l.replica-iterator q) g ≡ true → begins (runs_in l.others.entries q) g ≡ true;
}
