use Rattle.serve_connections.specs.Resting.{AreAtRest}
use Rattle.serve_connections.proofs.worker.settle.Given as goal

abbrev pub invariant-loop-key : goal.invariant-loop-key
invariant-loop-key g l = AreAtRest l.fn.clients l.resting.notes.items l.fn.order
