use Rattle.node_world.proofs.Claims.{never_invented}
use Rattle.node_world.proofs.laws.nothing_invented.Goals as goal

pub returns : goal.returns
returns c = never_invented
