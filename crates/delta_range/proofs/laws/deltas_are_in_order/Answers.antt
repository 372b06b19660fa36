use Rattle.delta_range.proofs.FormFacts.{deltas_in_order}
use Rattle.delta_range.proofs.laws.deltas_are_in_order.Goals as goal

pub returns : goal.returns
returns c = deltas_in_order
