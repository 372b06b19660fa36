use Rattle.std.proofs.Common.{◌≡◌, ◌++◌}
use Rattle.presence_journal_cuts.proofs.recent.rows_in_order.Given as goal

abbrev pub invariant-loop-dot : goal.invariant-loop-dot
invariant-loop-dot l = l.listed.items ++ l.dot-iterator ≡ l.fn.rows.entries
