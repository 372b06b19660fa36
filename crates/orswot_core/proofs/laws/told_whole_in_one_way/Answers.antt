use Rattle.orswot_core.proofs.OneFullFacts.{one_full}
use Rattle.orswot_core.proofs.laws.told_whole_in_one_way.Goals as goal

pub returns : goal.returns
returns c = one_full
