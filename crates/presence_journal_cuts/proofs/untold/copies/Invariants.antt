use Rattle.std.proofs.Common.{◌≡◌, ◌++◌}
use Rattle.presence_journal_cuts.proofs.untold.copies.Given as goal

abbrev pub invariant-loop-dot : goal.invariant-loop-dot
invariant-loop-dot l = l.list.items ++ l.dot-iterator ≡ l.rows.entries
