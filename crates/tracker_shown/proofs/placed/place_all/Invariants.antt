use Rattle.tracker_shown.proofs.PlaceLemmas.{PlacedTo}
use Rattle.tracker_shown.proofs.placed.place_all.Given as goal

abbrev pub invariant-loop-row : goal.invariant-loop-row
invariant-loop-row l = PlacedTo l.placed l.row-index l.fn.rows l.rows
