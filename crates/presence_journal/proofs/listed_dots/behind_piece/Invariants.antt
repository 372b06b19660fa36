use Rattle.std.proofs.Common.{List, length}
use Rattle.presence_base.specs.declared.dots.Dot.{Dot}
use Rattle.presence_base.specs.declared.row.Row.{Row}
use Rattle.presence_journal.specs.ListedDots.{piece_dots, BeginsWith}
use Rattle.presence_journal.proofs.listed_dots.behind_piece.Given as goal

-- what comes behind the dots that are left comes behind the piece
abbrev pub invariant-loop-dot : goal.invariant-loop-dot
invariant-loop-dot l = (t : List (Dot × Row)) → BeginsWith l.dots l.left t → BeginsWith (piece_dots l.piece) l.rows t

abbrev pub decreases-loop-dot : goal.decreases-loop-dot
decreases-loop-dot l = length l.dots
