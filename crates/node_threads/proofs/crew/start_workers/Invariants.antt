use Rattle.std.proofs.Common.{◌≡◌, ◌++◌}
use Rattle.std.specs.Vec.Iter.{into_iter_items}
use Rattle.node_threads.specs.HandedBack.{given_to}
use Rattle.node_threads.proofs.crew.start_workers.Given as goal

abbrev pub invariant-loop-tools : goal.invariant-loop-tools
invariant-loop-tools g l = given_to l.workers.items ++ into_iter_items l.tools-iterator ≡ l.fn.all.items
