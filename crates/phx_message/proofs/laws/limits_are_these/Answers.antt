use Rattle.std.proofs.Common.{refl}
use Rattle.phx_message.proofs.laws.limits_are_these.Goals as goal

pub returns : goal.returns
returns c = (refl, refl)
