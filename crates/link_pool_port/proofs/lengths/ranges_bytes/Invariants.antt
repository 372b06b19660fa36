use Rattle.std.proofs.Common.{◌≡◌, ◌+◌, ◌^◌, ◌<◌, map, drop}
use Rattle.link_lines.specs.Values.{range_value}
use Rattle.link_pool_port.specs.Lengths.{counted, sizes}
use Rattle.link_pool_port.proofs.lengths.ranges_bytes.Given as goal

-- with what is left it comes to the whole
abbrev pub invariant-loop-range : goal.invariant-loop-range
invariant-loop-range l = (l.bytes < 2 ^ 64) × (counted (l.bytes + sizes (map range_value (drop l.range-index l.ranges))) ≡ counted (sizes (map range_value l.ranges)))
