use Rattle.std.proofs.Common.{◌≡◌, length}
use Rattle.presence_journal.specs.ListedDots.{walk_dots, same_dots}
use Rattle.presence_journal.proofs.listed_dots.are_same.Given as goal

-- what is left decides
abbrev pub invariant-loop-dot : goal.invariant-loop-dot
invariant-loop-dot l = same_dots (walk_dots l.one) (walk_dots l.other) ≡ same_dots (walk_dots l.left) (walk_dots l.against)

abbrev pub decreases-loop-dot : goal.decreases-loop-dot
decreases-loop-dot l = length (walk_dots l.left)
