use Rattle.serve_connections.specs.Places.{AreKept, served}
use Rattle.serve_connections.specs.Resting.{AreAtRest}
use Rattle.serve_connections.specs.Working.{SendsIf}
use Rattle.serve_connections.proofs.Lists.{PairwiseTo}
use Rattle.serve_connections.proofs.worker.send_all.Given as goal

abbrev pub invariant-loop-key : goal.invariant-loop-key
invariant-loop-key g l =
    (AreKept l.clients l.fn.order
    × PairwiseTo (λ old new. SendsIf g.S.Write.contents old.unsent old new) (served l.fn.clients l.fn.order) (served l.clients l.fn.order) l.key-index)
    × AreAtRest l.clients l.fn.resting.notes.items l.fn.order
