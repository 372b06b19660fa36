use Rattle.std.proofs.Common.{◌≡◌, ◌++◌, drop}
use Rattle.presence_journal_cuts.specs.Changes.{told_in}
use Rattle.presence_journal_cuts.proofs.change.told_dots.Given as goal

abbrev pub invariant-loop-dot : goal.invariant-loop-dot
invariant-loop-dot l = l.told.items ++ told_in l.unsettled (drop l.dot-index l.dots) ≡ told_in l.unsettled l.dots
