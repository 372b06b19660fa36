use Rattle.std.proofs.Common.{◌≡◌, drop}
use Rattle.shard_pool_settled.specs.Settled.{rises}
use Rattle.shard_pool_settled.proofs.settled.do_rise.Given as goal

abbrev pub invariant-loop-receipt : goal.invariant-loop-receipt
invariant-loop-receipt l = rises l.shard 0 l.receipts ≡ rises l.shard l.last (drop l.receipt-index l.receipts)
