use Rattle.std.proofs.Common.{◌≡◌, take}
use Rattle.presence_journal.specs.History.{Begin, onto}
use Rattle.presence_journal_walks.specs.Changes.{was_told_removed}
use Rattle.presence_journal_walks.proofs.changing.was_told_removed.Given as goal

abbrev pub invariant-loop-place : goal.invariant-loop-place
invariant-loop-place l = l.removed ≡ was_told_removed (onto (Begin l.start) (take l.place l.entries)) l.dot
