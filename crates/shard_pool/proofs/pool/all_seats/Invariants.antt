use Rattle.std.specs.Prelude.{◌≡◌, ◌+◌}
use Rattle.shard_pool.specs.Seats.{new_seats}
use Rattle.shard_pool.proofs.pool.all_seats.Given as goal

abbrev pub invariant-loop-seat : goal.invariant-loop-seat
invariant-loop-seat g l =
    (l.a.parts + l.seat ≡ l.seats) × (l.a.amount ≡ 0) × (l.b.parts + l.seat ≡ l.seats) × (l.b.amount ≡ 0)
    × (l.c.parts + l.seat ≡ l.seats) × (l.c.amount ≡ 0) × (l.d.parts + l.seat ≡ l.seats) × (l.d.amount ≡ 0) × (l.all.items ≡ new_seats l.seat)
