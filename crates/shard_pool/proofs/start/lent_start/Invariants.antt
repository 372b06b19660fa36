use Rattle.std.specs.Prelude.{◌≡◌, ◌+◌}
use Rattle.shard_pool.specs.Hands.{new_hands}
use Rattle.shard_pool.proofs.start.lent_start.Given as goal

abbrev pub invariant-loop-seat : goal.invariant-loop-seat
invariant-loop-seat g l = (l.all.parts + l.seat ≡ l.seats) × (l.all.amount ≡ 0) × (l.parts.items ≡ new_hands l.shard l.seat)
