use Rattle.std.proofs.Common.{◌≡◌, ◌++◌, ◌-◌}
use Rattle.dot_context.specs.Sets.{span}
use Rattle.orswot_core.proofs.full.push_run.Given as goal

abbrev pub invariant-loop-count : goal.invariant-loop-count
invariant-loop-count l = l.dots.items ++ span l.replica l.count (l.to - l.count) ≡ l.fn.dots.items ++ span l.replica l.from (l.to - l.from)
