use Rattle.presence_journal_known.proofs.ReachLemmas.{LeadsOn, dot_counts}
use Rattle.presence_journal_known.proofs.reaching.reach_by_dots.Given as goal

abbrev pub invariant-loop-dot : goal.invariant-loop-dot
invariant-loop-dot l = LeadsOn (dot_counts l.replica) l.dots l.dot-index l.from l.reach
