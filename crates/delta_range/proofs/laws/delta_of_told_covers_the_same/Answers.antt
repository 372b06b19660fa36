use Rattle.delta_range.proofs.ViewFacts.{covers_the_same}
use Rattle.delta_range.proofs.laws.delta_of_told_covers_the_same.Goals as goal

pub returns : goal.returns
returns c = covers_the_same
