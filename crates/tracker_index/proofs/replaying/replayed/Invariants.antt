use Rattle.tracker_index.proofs.ReplayLemmas.{KeptTo}
use Rattle.tracker_index.proofs.replaying.replayed.Given as goal

abbrev pub invariant-loop-entry : goal.invariant-loop-entry
invariant-loop-entry l = KeptTo l.start l.fn.entries l.entry-index l.parts
