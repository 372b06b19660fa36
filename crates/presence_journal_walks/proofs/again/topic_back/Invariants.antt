use Rattle.presence_journal_walks.proofs.LoopLemmas.{BackTo}
use Rattle.presence_journal_walks.proofs.again.topic_back.Given as goal

abbrev pub invariant-loop-place : goal.invariant-loop-place
invariant-loop-place l = BackTo l.start l.entries l.dot l.at l.place

abbrev pub decreases-loop-place : goal.decreases-loop-place
decreases-loop-place l = l.place
