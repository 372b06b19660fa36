use Rattle.std.proofs.Common.{◌≡◌, drop, map}
use Rattle.shard_pool_settled.specs.Settled.{seats_rise}
use Rattle.shard_pool_settled.proofs.settled.all_rise.Given as goal

abbrev pub invariant-loop-of_seat : goal.invariant-loop-of_seat
invariant-loop-of_seat l = seats_rise l.shards (map (λ v. v.items) l.receipts) ≡ seats_rise l.shards (map (λ v. v.items) (drop l.of_seat-index l.receipts))
