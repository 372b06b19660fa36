use Rattle.node_world.proofs.Claims.{caught_up_is_always_equal}
use Rattle.node_world.proofs.laws.caught_up_is_equal.Goals as goal

pub returns : goal.returns
returns c = caught_up_is_always_equal
