use Rattle.std.proofs.Common.{◌≤◌}
use Rattle.node_system.proofs.reading.read_into.Given as goal

abbrev pub invariant-loop : goal.invariant-loop
invariant-loop g l = l.len ≤ 4096
