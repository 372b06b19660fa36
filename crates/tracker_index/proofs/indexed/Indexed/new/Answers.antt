use Rattle.tracker_index.proofs.IndexedLemmas.{sound_new}
use Rattle.tracker_index.proofs.indexed.Indexed.new.Goals as goal

pub invariant_of-result : goal.invariant_of-result
invariant_of-result c = sound_new c.args.own c.own.result c.new-journal.result c.new-parts.result c.new-journal.ensures c.own.ensures c.entries-entries.ensures.legal c.entries-entries.ensures.limits c.new-parts.ensures.kept
