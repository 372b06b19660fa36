use Rattle.std.proofs.Common.{rules}
use Rattle.presence_metas.proofs.presences.Presences.to_value.Goals as goal

pub loop-key-preserved : goal.loop-key-preserved
loop-key-preserved c = search rules
