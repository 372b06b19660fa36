use Rattle.std.proofs.Common.{◌≡◌, ◌++◌, length}
use Rattle.presence_journal.specs.RowDots.{dots_in}
use Rattle.presence_journal.specs.ListedDots.{pieces_dots}
use Rattle.presence_journal.proofs.listed_dots.pieces_of.Given as goal

-- the pieces so far, and the rows that are left
abbrev pub invariant-loop-row : goal.invariant-loop-row
invariant-loop-row l = pieces_dots l.pieces.items ++ dots_in l.rest ≡ dots_in l.rows

abbrev pub decreases-loop-row : goal.decreases-loop-row
decreases-loop-row l = length l.rest
