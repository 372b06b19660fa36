use Rattle.std.proofs.Common.{◌≡◌, ◌++◌}
use Rattle.orswot_core.proofs.full.rows_in.Given as goal

abbrev pub invariant-loop-dot : goal.invariant-loop-dot
invariant-loop-dot l = l.rows.items ++ l.dot-iterator ≡ l.live.entries
