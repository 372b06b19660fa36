use Rattle.delta_range.proofs.OrderKept.{older_in_order}
use Rattle.delta_range.proofs.laws.older_dots_are_in_order.Goals as goal

pub returns : goal.returns
returns c = older_in_order
