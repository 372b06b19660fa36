use Rattle.std.proofs.Common.{option_copied, take}
use Rattle.presence_journal.specs.History.{Begin, onto}
use Rattle.presence_journal_walks.proofs.Tallies.{IsFollowed}
use Rattle.presence_journal_walks.proofs.waits.follow.Given as goal

abbrev pub invariant-loop-place : goal.invariant-loop-place
invariant-loop-place l = IsFollowed l.subscriber (option_copied l.topic) l.tally (onto (Begin l.start) (take l.place l.entries))
