use Rattle.orswot_core.proofs.OneFullFacts.{fulls_in_order}
use Rattle.orswot_core.proofs.laws.fulls_are_in_order.Goals as goal

pub returns : goal.returns
returns c = fulls_in_order
