use Rattle.std.proofs.Common.{◌≡◌, length, sym, ◌∙◌, rules}
use Rattle.serve_connections.specs.Places.{served}
use Rattle.serve_connections.proofs.Places.{kept_length}
use Rattle.serve_connections.proofs.worker.Worker.len.Goals as goal

pub returns : goal.returns
returns g c =
    let all : length (served c.args.self.now.clients c.args.self.now.order.items) ≡ length c.args.self.now.order.items =
    kept_length c.args.self.now.clients c.args.self.now.order.items c.args.self.now.kept in
    let one : c.len.result ≡ length c.args.self.now.order.items = search rules in
    one ∙ sym all
