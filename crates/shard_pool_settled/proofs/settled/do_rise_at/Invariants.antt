use Rattle.std.proofs.Common.{◌≡◌}
use Rattle.shard_pool_settled.specs.Settled.{rises_at}
use Rattle.shard_pool_settled.proofs.settled.do_rise_at.Given as goal

abbrev pub invariant-loop-shard : goal.invariant-loop-shard
invariant-loop-shard l = l.all ≡ rises_at l.shard l.receipts
