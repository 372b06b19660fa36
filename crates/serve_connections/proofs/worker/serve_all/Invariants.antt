use Rattle.serve_connections.specs.Turning.{around}
use Rattle.serve_connections.specs.Places.{AreKept, served}
use Rattle.serve_connections.specs.Resting.{AreAtRest}
use Rattle.serve_connections.specs.Working.{Serves}
use Rattle.serve_connections.proofs.Lists.{ChainedTo}
use Rattle.serve_connections.proofs.worker.serve_all.Given as goal

abbrev pub invariant-loop-key : goal.invariant-loop-key
invariant-loop-key g l =
    (AreKept l.clients l.fn.keys.order.now
    × ChainedTo (Serves (around g.S.Read.remaining g.S.Write.contents g.P.Port.step g.H.PresenceHooks l.fn.round.hooks.now) l.fn.round.routes.now l.fn.round.now)
    (served l.fn.clients l.fn.keys.order.now) (served l.clients l.fn.keys.order.now) l.key-index l.fn.port l.port)
    × AreAtRest l.clients l.fn.keys.resting.now.notes.items l.fn.keys.order.now
