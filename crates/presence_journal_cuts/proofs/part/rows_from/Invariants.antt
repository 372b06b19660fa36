use Rattle.std.proofs.Common.{◌≡◌, ◌++◌}
use Rattle.presence_journal_cuts.specs.Parting.{rows_above, end_of}
use Rattle.presence_journal_cuts.proofs.part.rows_from.Given as goal

-- what was taken and what is taken of the rest make up all
abbrev pub invariant-loop-dot : goal.invariant-loop-dot
invariant-loop-dot l =
    (l.list.items ++ rows_above l.fn.from l.left l.dot-iterator ≡ rows_above l.fn.from l.fn.room l.fn.rows)
    × (end_of l.fn.from l.fn.last l.left l.dot-iterator ≡ end_of l.fn.from l.fn.last l.fn.room l.fn.rows)
