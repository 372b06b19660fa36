use Rattle.std.proofs.Common.{◌≡◌, ◌++◌}
use Rattle.tracker_known.proofs.gather.copies.Given as goal

abbrev pub invariant-loop-dot : goal.invariant-loop-dot
invariant-loop-dot l = l.list.items ++ l.dot-iterator ≡ l.rows.entries
