use Rattle.serve_connections.proofs.Turnings.{serves}
use Rattle.serve_connections.specs.Turning.{around}
use Rattle.serve_connections.proofs.connection.Connection.serve.Goals as goal

pub returns : goal.returns
returns g c =
    serves (around g.S.Read.remaining g.S.Write.contents g.P.Port.step g.H.PresenceHooks c.args.hooks.now) c.args.routes.now c.args.now c.args.self.now c.respond-first.new.self c.go_on.new.self
    c.args.port.now c.respond-first.new.port c.go_on.new.port c.hear-heard.result c.hear-heard.new.socket c.respond-first.result c.is_message.result c.go_on.result
    c.hear-heard.ensures c.respond-first.ensures c.is_message.ensures c.go_on.ensures
