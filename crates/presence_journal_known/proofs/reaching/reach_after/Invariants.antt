use Rattle.presence_journal_known.proofs.ReachLemmas.{ReachesTo}
use Rattle.presence_journal_known.proofs.reaching.reach_after.Given as goal

abbrev pub invariant-loop-place : goal.invariant-loop-place
invariant-loop-place l = ReachesTo l.start l.entries l.place l.replica l.from l.reach l.own l.used
