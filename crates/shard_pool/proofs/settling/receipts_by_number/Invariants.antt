use Rattle.std.proofs.Common.{◌≡◌, map, true}
use Rattle.shard_pool.specs.Settling.{by_number, has_seats}
use Rattle.shard_pool.proofs.settling.receipts_by_number.Given as goal

abbrev pub invariant-loop-number : goal.invariant-loop-number
invariant-loop-number g l = (map (λ r. r.items) l.all.items ≡ by_number l.seats l.number) × (has_seats l.seats l.number ≡ true)
