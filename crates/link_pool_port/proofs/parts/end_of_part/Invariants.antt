use Rattle.std.proofs.Common.{drop}
use Rattle.link_pool_port.proofs.PartRows.{AreLeft}
use Rattle.link_pool_port.proofs.parts.end_of_part.Given as goal

-- of the rows up to a count so many bytes are left, beside the rows that are left
abbrev pub invariant-loop-row : goal.invariant-loop-row
invariant-loop-row l = AreLeft l.left l.last (drop l.row-index l.row-items) l.row-items
