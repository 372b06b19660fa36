use Rattle.std.proofs.Common.{◌≡◌, drop}
use Rattle.presence_journal.specs.Queue.{topic_at}
use Rattle.presence_journal_walks.proofs.topics.listed_topic.Given as goal

abbrev pub invariant-loop-listed : goal.invariant-loop-listed
invariant-loop-listed l = topic_at l.fn.subscribers l.number ≡ topic_at (drop l.listed-index l.fn.subscribers) l.number
