use Rattle.std.proofs.Common.{◌≡◌, ◌++◌, drop}
use Rattle.std.specs.FinMap as map
use Rattle.node_world.specs.World.{rows_under}
use Rattle.node_world.proofs.going_on.rows_under.Given as goal

abbrev pub invariant-loop-pair : goal.invariant-loop-pair
invariant-loop-pair l = l.rows.items ++ rows_under (map.get l.set.live) (drop l.pair-index l.pairs) ≡ rows_under (map.get l.set.live) l.pairs
