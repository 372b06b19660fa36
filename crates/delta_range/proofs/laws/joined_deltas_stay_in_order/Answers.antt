use Rattle.delta_range.proofs.OrderKept.{stays_in_order}
use Rattle.delta_range.proofs.laws.joined_deltas_stay_in_order.Goals as goal

pub returns : goal.returns
returns c = stays_in_order
