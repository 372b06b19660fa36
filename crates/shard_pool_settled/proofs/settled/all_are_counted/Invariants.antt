use Rattle.std.proofs.Common.{◌≡◌, drop, map}
use Rattle.shard_pool_settled.specs.Settled.{are_counted}
use Rattle.shard_pool_settled.proofs.settled.all_are_counted.Given as goal

abbrev pub invariant-loop-shard : goal.invariant-loop-shard
invariant-loop-shard l = are_counted 0 l.journals (map (λ v. v.items) l.receipts) ≡ are_counted l.shard (drop l.shard l.journals) (map (λ v. v.items) l.receipts)
