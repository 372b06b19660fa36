use Rattle.std.proofs.Common.{◌≡◌, drop}
use Rattle.orswot_core.specs.Checks.{follow_on, are_in_order}
use Rattle.orswot_core.proofs.told.are_in_order.Given as goal

abbrev pub invariant-loop-range : goal.invariant-loop-range
invariant-loop-range l = follow_on l.last (drop l.range-index l.rest) ≡ are_in_order l.ranges
