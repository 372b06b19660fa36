use Rattle.orswot_core.proofs.OneFullFacts.{tells_the_same}
use Rattle.orswot_core.proofs.laws.forms_tell_the_same.Goals as goal

pub returns : goal.returns
returns c = tells_the_same
