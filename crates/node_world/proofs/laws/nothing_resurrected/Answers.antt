use Rattle.node_world.proofs.Claims.{never_resurrected}
use Rattle.node_world.proofs.laws.nothing_resurrected.Goals as goal

pub returns : goal.returns
returns c = never_resurrected
