use Rattle.tungstenite.proofs.SocketLemmas.{leaves-pending-on}
use Rattle.serve_sockets.proofs.web_socket.WebSocket.close_frame.Goals as goal

pub returns-clause-ok : goal.returns-clause-ok
returns-clause-ok g c =
    let s = c.self.inside in
    let a = rw c.close_frame.ensures at c.close-outcome.ensures.ok in
    rw (c.give_back.ensures.same, ← c.self.view_is) (leaves-pending-on _ _ _ s.sent _ _ c.self.invariant.1.0 a)
