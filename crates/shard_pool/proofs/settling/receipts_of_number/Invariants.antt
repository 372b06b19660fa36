use Rattle.std.proofs.Common.{◌≡◌, drop}
use Rattle.shard_pool.specs.Settling.{found, has_seat}
use Rattle.shard_pool.proofs.settling.receipts_of_number.Given as goal

abbrev pub invariant-loop-seat : goal.invariant-loop-seat
invariant-loop-seat g l = (found l.seats l.number ≡ found (drop l.seat-index l.seats) l.number) × (has_seat l.seats l.number ≡ has_seat (drop l.seat-index l.seats) l.number)
