use Rattle.std.proofs.Common.{rules}
use Rattle.presence_metas.proofs.mirror.Mirror.set_state.Goals as goal

pub returns : goal.returns
returns c = search rules
