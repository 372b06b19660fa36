use Rattle.std.proofs.Common.{drop}
use Rattle.node_world.specs.World.{WorldValue, Runs}
use Rattle.node_world.proofs.running.apply_all.Given as goal

abbrev pub invariant-loop-event : goal.invariant-loop-event
invariant-loop-event l = (v : WorldValue) → Runs l.world (drop l.event-index l.events) v → Runs l.fn.world l.events v
