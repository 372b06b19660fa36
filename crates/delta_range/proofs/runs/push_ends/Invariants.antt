use Rattle.std.proofs.Common.{◌≡◌, ◌++◌, drop, map}
use Rattle.delta_range.specs.Deltas.{ends_of}
use Rattle.delta_range.proofs.runs.push_ends.Given as goal

abbrev pub invariant-loop-range : goal.invariant-loop-range
invariant-loop-range l = l.runs.items ++ map ends_of (drop l.range-index l.ranges) ≡ l.fn.runs.items ++ map ends_of l.ranges
