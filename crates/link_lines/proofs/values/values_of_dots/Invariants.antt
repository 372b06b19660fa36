use Rattle.std.proofs.Common.{◌≡◌, ◌++◌, map, drop}
use Rattle.serde_json.specs.View.{view}
use Rattle.link_lines.specs.Values.{dot_value}
use Rattle.link_lines.proofs.values.values_of_dots.Given as goal

abbrev pub invariant-loop-dot : goal.invariant-loop-dot
invariant-loop-dot l = map view l.values.items ++ map dot_value (drop l.dot-index l.dots) ≡ map dot_value l.dots
