use Rattle.std.proofs.Common.{◌≡◌, ◌+◌, ◌≤◌, drop}
use Rattle.shard_pool_settled.specs.Seated.{seated_in}
use Rattle.shard_pool_settled.proofs.seated.count_seated.Given as goal

abbrev pub invariant-loop-entry : goal.invariant-loop-entry
invariant-loop-entry l = (l.count + seated_in (drop l.entry-index l.entries) ≡ seated_in l.entries) × (l.count ≤ l.entry-index)
