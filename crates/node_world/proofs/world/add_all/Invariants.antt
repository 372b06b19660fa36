use Rattle.std.proofs.Common.{◌≡◌, drop}
use Rattle.node_world.specs.Lives.{with_nodes}
use Rattle.node_world.proofs.world.add_all.Given as goal

abbrev pub invariant-loop-name : goal.invariant-loop-name
invariant-loop-name l = with_nodes l.world (drop l.name-index l.names) ≡ with_nodes l.fn.world l.names
