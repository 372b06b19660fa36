use Rattle.std.proofs.Common.{◌≡◌, drop}
use Rattle.shard_pool_settled.specs.Settled.{all_told}
use Rattle.shard_pool_settled.proofs.settled.have_entries.Given as goal

abbrev pub invariant-loop-receipt : goal.invariant-loop-receipt
invariant-loop-receipt l = all_told l.journals l.seat l.receipts ≡ all_told l.journals l.seat (drop l.receipt-index l.receipts)
