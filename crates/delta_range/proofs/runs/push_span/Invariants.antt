use Rattle.std.proofs.Common.{◌≡◌, ◌++◌, ◌-◌}
use Rattle.dot_context.specs.Sets.{span}
use Rattle.delta_range.proofs.runs.push_span.Given as goal

abbrev pub invariant-loop-count : goal.invariant-loop-count
invariant-loop-count l = l.dots.items ++ span l.owner l.count (l.to - l.count) ≡ l.fn.dots.items ++ span l.owner l.from (l.to - l.from)
