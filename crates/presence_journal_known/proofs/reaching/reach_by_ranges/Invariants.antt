use Rattle.presence_journal_known.proofs.ReachLemmas.{LeadsOn, range_counts}
use Rattle.presence_journal_known.proofs.reaching.reach_by_ranges.Given as goal

abbrev pub invariant-loop-range : goal.invariant-loop-range
invariant-loop-range l = LeadsOn (range_counts l.replica) l.ranges l.range-index l.from l.reach
