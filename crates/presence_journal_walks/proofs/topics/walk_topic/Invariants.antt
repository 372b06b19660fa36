use Rattle.std.proofs.Common.{◌≡◌, option_copied}
use Rattle.presence_journal.specs.Queue.{topic_of}
use Rattle.presence_journal.proofs.Walking.{Reached}
use Rattle.presence_journal_walks.proofs.topics.walk_topic.Given as goal

abbrev pub invariant-loop-entry : goal.invariant-loop-entry
invariant-loop-entry l = Reached l.journal l.entries l.entry-index (λ h. option_copied l.topic ≡ topic_of h l.number)
