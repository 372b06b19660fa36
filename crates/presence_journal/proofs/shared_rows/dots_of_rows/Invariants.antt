use Rattle.std.proofs.Common.{◌≡◌, ◌++◌, drop}
use Rattle.presence_journal.specs.RowDots.{dots_in}
use Rattle.presence_journal.proofs.shared_rows.dots_of_rows.Given as goal

-- the dots so far, and those of the rows that are left
abbrev pub invariant-loop-row : goal.invariant-loop-row
invariant-loop-row l = l.dots.items ++ dots_in (drop l.row-index l.rows) ≡ dots_in l.rows
