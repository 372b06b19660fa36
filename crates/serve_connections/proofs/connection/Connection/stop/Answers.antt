use Rattle.serve_connections.proofs.Turnings.{stops}
use Rattle.serve_connections.proofs.connection.Connection.stop.Goals as goal

pub returns-in-Open : goal.returns-in-Open
returns-in-Open g c = stops g.S.Write.contents c.args.self.now.stage c.args.self.now c.close.new.self c.in-Open.is c.close.ensures.closed c.close.ensures.kept
