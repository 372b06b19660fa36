use Rattle.tracker_feeds.proofs.AddLemmas.{AllAddedTo}
use Rattle.tracker_feeds.proofs.diffs.add_diffs.Given as goal

abbrev pub invariant-loop-row : goal.invariant-loop-row
invariant-loop-row l = AllAddedTo l.feeds l.changes l.rows l.row-index l.fn.made l.made
