use Rattle.std.proofs.Common.{◌≡◌, ◌+◌, drop}
use Rattle.presence_node_main.specs.ServeEnds.{receipts_in}
use Rattle.presence_node_main.proofs.settling.receipts_of.Given as goal

abbrev pub invariant-loop-seat : goal.invariant-loop-seat
invariant-loop-seat g l = l.count + receipts_in (drop l.seat-index l.seats) ≡ receipts_in l.seats
