use Rattle.orswot_core.proofs.CutFacts.{cut_tells}
use Rattle.orswot_core.proofs.told_laws.cut_tells_of_some.Goals as goal

pub returns : goal.returns
returns c = cut_tells
