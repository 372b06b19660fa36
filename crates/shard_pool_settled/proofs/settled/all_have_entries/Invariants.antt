use Rattle.std.proofs.Common.{◌≡◌, drop, map}
use Rattle.shard_pool_settled.specs.Settled.{seats_told}
use Rattle.shard_pool_settled.proofs.settled.all_have_entries.Given as goal

abbrev pub invariant-loop-seat : goal.invariant-loop-seat
invariant-loop-seat l = seats_told l.journals 0 (map (λ v. v.items) l.receipts) ≡ seats_told l.journals l.seat (map (λ v. v.items) (drop l.seat l.receipts))
