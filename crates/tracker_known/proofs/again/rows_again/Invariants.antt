use Rattle.std.proofs.Common.{◌≡◌, ◌++◌, drop}
use Rattle.std.specs.FinMap as map
use Rattle.tracker_known.specs.Again.{rows_again}
use Rattle.tracker_known.proofs.again.rows_again.Given as goal

abbrev pub invariant-loop-pair : goal.invariant-loop-pair
invariant-loop-pair l = l.rows.items ++ rows_again (map.get l.set.live) (drop l.pair-index l.pairs) ≡ rows_again (map.get l.set.live) l.pairs
