use Rattle.std.proofs.Common.{drop}
use Rattle.presence_metas.specs.KeyOrder.{GoesOn, AreInKeyOrder}
use Rattle.presence_metas.proofs.order.are_in_key_order.Given as goal

-- what is left decides
abbrev pub invariant-loop-dot : goal.invariant-loop-dot
invariant-loop-dot l = GoesOn l.last (drop l._dot-index l.rows) → AreInKeyOrder l.rows
