use Rattle.std.proofs.Common.{◌≡◌, ◌+◌, ◌^◌, ◌<◌, map, drop}
use Rattle.link_lines.specs.Values.{row_value}
use Rattle.link_pool_port.specs.Lengths.{counted, sizes}
use Rattle.link_pool_port.proofs.lengths.rows_bytes.Given as goal

-- with what is left it comes to the whole
abbrev pub invariant-loop-row : goal.invariant-loop-row
invariant-loop-row l = (l.bytes < 2 ^ 64) × (counted (l.bytes + sizes (map row_value (drop l.row-index l.rows))) ≡ counted (sizes (map row_value l.rows)))
