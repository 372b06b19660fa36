use Rattle.std.proofs.Common.{◌≡◌, option_copied, take}
use Rattle.presence_journal.specs.History.{Begin, onto}
use Rattle.presence_journal_walks.specs.Changes.{topic_in, first_told}
use Rattle.presence_journal_walks.proofs.changing.first_topic.Given as goal

abbrev pub invariant-loop-place : goal.invariant-loop-place
invariant-loop-place l = option_copied l.first ≡ topic_in (first_told (onto (Begin l.start) (take l.place l.entries)) l.dot)
