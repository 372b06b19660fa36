use Rattle.std.proofs.Common.{◌≡◌, ◌<◌, ◌≤◌, length, sym, ap, ◌∙◌, get_or, rules}
use Rattle.slab.specs.Slab.{get}
use Rattle.std.specs.Prelude.{option_copied}
use Rattle.serve_connections.proofs.Marking.{served_get, served_past}
use Rattle.serve_connections.proofs.worker.Worker.at.Goals as goal

pub returns-in_err-get : goal.returns-in_err-get
returns-in_err-get g c =
    let past : length c.args.self.now.order.items ≤ c.args.place = search rules in
    ap option_copied c.from_residual.ensures
    ∙ sym (served_past c.args.self.now.clients c.args.self.now.order.items c.args.place c.args.self.now.kept past)

pub returns : goal.returns
returns g c =
    let within : c.args.place < length c.args.self.now.order.items = search rules in
    let key : c.in_ok-get.field-0.now ≡ get_or c.args.self.now.order.items c.args.place 0 = search rules in
    c.get-2.ensures ∙ ap (get c.args.self.now.clients) key
    ∙ served_get c.args.self.now.clients c.args.self.now.order.items c.args.place 0 c.args.self.now.kept within
