use Rattle.serve_sockets.proofs.BufferSendings.{sent_then}
use Rattle.serve_sockets.proofs.web_socket.WebSocket.send_output.Goals as goal

pub returns-then-ne-clause-sent : goal.returns-then-ne-clause-sent
returns-then-ne-clause-sent g c = sent_then g.S.Write.contents c.args.self.now c.loop.self c.send_some.new.self c.loop.invariant c.send_some.ensures

pub loop-preserved : goal.loop-preserved
loop-preserved g c = sent_then g.S.Write.contents c.args.self.now c.loop.self c.send_some.new.self c.loop.invariant c.send_some.ensures
