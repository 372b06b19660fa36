use Rattle.std.proofs.Common.{◌≡◌, ◌++◌, map, drop}
use Rattle.serde_json.specs.View.{view}
use Rattle.link_lines.specs.Values.{range_value}
use Rattle.link_lines.proofs.values.values_of_ranges.Given as goal

abbrev pub invariant-loop-range : goal.invariant-loop-range
invariant-loop-range l = map view l.values.items ++ map range_value (drop l.range-index l.ranges) ≡ map range_value l.ranges
