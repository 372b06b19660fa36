use Rattle.delta_range.proofs.ViewFacts.{tells_in_turn}
use Rattle.delta_range.proofs.laws.joined_deltas_tell_in_turn.Goals as goal

pub returns : goal.returns
returns c = tells_in_turn
