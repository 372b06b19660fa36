use Rattle.std.proofs.Common.{◌≡◌, ◌+◌, ◌≤◌, ◌*◌, drop, map}
use Rattle.shard_pool_settled.specs.Settled.{receipts_at}
use Rattle.shard_pool_settled.proofs.settled.total_at.Given as goal

abbrev pub invariant-loop-of_seat : goal.invariant-loop-of_seat
invariant-loop-of_seat l = (l.total + receipts_at l.shard (map (λ v. v.items) (drop l.of_seat-index l.receipts)) ≡ receipts_at l.shard (map (λ v. v.items) l.receipts)) × (l.total ≤ l.of_seat-index * 18446744073709551615)
