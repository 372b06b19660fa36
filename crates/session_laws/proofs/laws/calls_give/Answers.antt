use Rattle.session_laws.proofs.Givings.{calls_give}
use Rattle.session_laws.proofs.laws.calls_give.Goals as goal

pub returns : goal.returns
returns c = calls_give
