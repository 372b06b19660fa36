use Rattle.delta_range.proofs.ViewFacts.{no_larger}
use Rattle.delta_range.proofs.laws.joined_deltas_are_no_larger.Goals as goal

pub returns : goal.returns
returns c = no_larger
