use Rattle.std.proofs.Common.{sym, subst}
use Rattle.presence_journal.specs.History.{History}
use Rattle.tracker_index.specs.Starting.{LeavesQueues}
use Rattle.tracker_index.proofs.StartingLemmas.{sound_start, sound_again, leaves_queues}
use Rattle.tracker_index.proofs.indexed.begun_again.Goals as goal

pub kept_of-requires : goal.kept_of-requires
kept_of-requires c = sound_start c.args.journal.now c.in_ok-start.start c.in_ok-start.ensures.stands

pub of_start-journal-requires : goal.of_start-journal-requires
of_start-journal-requires c = sound_start c.args.journal.now c.in_ok-start.start c.in_ok-start.ensures.stands

pub invariant_of-result : goal.invariant_of-result
invariant_of-result c = sound_again c.args.journal.now c.of_start-journal.result c.in_ok-start.start c.in_ok-parts.parts c.in_ok-start.ensures.stands c.of_start-journal.ensures c.in_ok-parts.ensures.kept

pub returns-clause-begins : goal.returns-clause-begins
returns-clause-begins c = record { start = c.in_ok-start.start; begins = c.of_start-journal.ensures; stands = c.in_ok-start.ensures.stands }

pub returns-clause-queues : goal.returns-clause-queues
returns-clause-queues c = subst (λ (g : History). LeavesQueues c.args.stay c.args.journal.now g) (sym c.of_start-journal.ensures) (leaves_queues c.args.journal.now c.in_ok-start.start c.args.stay c.in_ok-start.ensures.stands c.in_ok-start.ensures.current)
