use Rattle.tungstenite.specs.Socket.{Sent}
use Rattle.serve_sockets.proofs.web_socket.WebSocket.send_output.Given as goal

abbrev pub invariant-loop : goal.invariant-loop
invariant-loop g l = Sent g.S.Write.contents l.fn.self l.self
