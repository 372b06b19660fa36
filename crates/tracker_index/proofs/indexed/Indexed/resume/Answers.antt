use Rattle.tracker_index.proofs.StartingLemmas.{sound_begun}
use Rattle.tracker_index.proofs.indexed.Indexed.resume.Goals as goal

pub invariant_of-result : goal.invariant_of-result
invariant_of-result c = sound_begun c.of_start-journal.result c.in_ok-start.start c.in_ok-parts.parts c.of_start-journal.ensures c.in_ok-start.ensures.stands c.in_ok-parts.ensures.kept
