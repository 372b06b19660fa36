use Rattle.std.specs.Prelude.{◌≡◌, false}
use Rattle.serve_connections.proofs.LeavingLemmas.{LeftTo}
use Rattle.serve_connections.proofs.worker.let_go.Given as goal

abbrev pub invariant-loop-key : goal.invariant-loop-key
invariant-loop-key g l = LeftTo l.fn.clients l.clients l.fn.order l.key-index × (l.some ≡ false → l.clients ≡ l.fn.clients)
