use Rattle.std.proofs.Common.{◌≡◌, ◌++◌, length}
use Rattle.presence_journal.specs.ListedDots.{walk_dots}
use Rattle.presence_journal.proofs.listed_dots.ListedDots.to_vec.Given as goal

-- the dots so far, and those that are left
abbrev pub invariant-loop-dot : goal.invariant-loop-dot
invariant-loop-dot l = l.dots.items ++ walk_dots l.left ≡ l.self

abbrev pub decreases-loop-dot : goal.decreases-loop-dot
decreases-loop-dot l = length (walk_dots l.left)
