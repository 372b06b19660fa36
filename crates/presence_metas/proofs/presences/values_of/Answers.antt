use Rattle.std.proofs.Common.{arith}
use Rattle.std.proofs.lemmas.Grind.{common_steps}
use Rattle.presence_metas.proofs.presences.values_of.Goals as goal

pub loop-tracked-preserved : goal.loop-tracked-preserved
loop-tracked-preserved c = grind (arith, common_steps)
