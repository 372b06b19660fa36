use Rattle.tungstenite.proofs.SocketLemmas.{flushed-of-sent, writes-start, writes-sent}
use Rattle.serve_sockets.proofs.web_socket.WebSocket.write.Goals as goal
use Rattle.serve_sockets.proofs.web_socket.WebSocket.write.Goals.{then-waiting-self+in_ok-send_output, else-waiting-self}

pub returns-clause-wrote : goal.returns-clause-wrote
returns-clause-wrote g c =
    let cf = g.S.Write.contents in
    let v0 = c.args.self.now in
    let v1 = c.write_frame.new.self in
    let w0 = writes-start cf v0 v1 _ c.in_ok-write_frame.ensures.ok c.in_ok-write_frame.ensures.stream c.in_ok-write_frame.ensures.input in
    elim c.if-waiting-self.branch [
      | then-waiting-self+in_ok-send_output w ↦ rw w.self-is (writes-sent cf v0 v1 w.send_output.new.self _ w0 (flushed-of-sent cf v1 w.send_output.new.self w.in_ok-send_output.ensures.sent))
      | else-waiting-self w ↦ rw w.self-is w0
    ]
