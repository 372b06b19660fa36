use Rattle.std.proofs.Common.{◌≡◌, ◌+◌, ◌≤◌, drop}
use Rattle.shard_pool_settled.specs.Settled.{count_at}
use Rattle.shard_pool_settled.proofs.settled.number_at.Given as goal

abbrev pub invariant-loop-receipt : goal.invariant-loop-receipt
invariant-loop-receipt l = (l.count + count_at l.shard (drop l.receipt-index l.receipts) ≡ count_at l.shard l.receipts) × (l.count ≤ l.receipt-index)
