use Rattle.serve_connections.proofs.Sparings.{LeftTo}
use Rattle.serve_connections.proofs.sparing.left_by.Given as goal

abbrev pub invariant-loop-item : goal.invariant-loop-item
invariant-loop-item l = LeftTo l.items l.room l.item-index l.left
