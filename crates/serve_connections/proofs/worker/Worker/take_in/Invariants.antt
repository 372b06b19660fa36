use Rattle.std.specs.Prelude.{◌≡◌, ◌+◌, length}
use Rattle.crossbeam_queue.specs.Passes.{view}
use Rattle.serve_connections.specs.Places.{served}
use Rattle.serve_connections.specs.Working.{NoneLost, TakesIn}
use Rattle.serve_connections.proofs.worker.Worker.take_in.Given as goal

-- each look took one
abbrev pub invariant-loop : goal.invariant-loop
invariant-loop g l =
    TakesIn l.fn.settings g.S.CarriesToken.carried l.fn.now (served l.fn.self.clients l.fn.self.order.items) (served l.self.clients l.self.order.items)
    × NoneLost (view l.fn.self.taker.pass).pops (view l.self.taker.pass).pops
    (served l.fn.self.clients l.fn.self.order.items) (served l.self.clients l.self.order.items)
    × (length (served l.self.clients l.self.order.items) ≡ length (served l.fn.self.clients l.fn.self.order.items) + l.counter)
