use Rattle.tracker_shown.proofs.OpeningLemmas.{UpTo}
use Rattle.tracker_shown.proofs.opening.put_up.Given as goal

abbrev pub invariant-loop-row : goal.invariant-loop-row
invariant-loop-row l = UpTo l.start l.live l.row-index l.fn.rows l.rows
