use Rattle.delta_range.proofs.FormFacts.{tells_the_same}
use Rattle.delta_range.proofs.laws.forms_tell_the_same.Goals as goal

pub returns : goal.returns
returns c = tells_the_same
