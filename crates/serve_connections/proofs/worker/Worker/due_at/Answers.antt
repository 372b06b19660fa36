use Rattle.std.proofs.Common.{◌≡◌, ◌<◌, ◌≤◌, true, length, sym, ap, ◌∙◌, get_or, rules}
use Rattle.slab.specs.Slab.{get}
use Rattle.std.specs.Prelude.{option_copied, slice_get}
use Rattle.serve_connections.specs.Places.{served}
use Rattle.serve_connections.specs.Resting.{holds_at, is_noted}
use Rattle.serve_connections.proofs.Marking.{served_get, served_past}
use Rattle.serve_connections.proofs.Notes.{finds, rest_here}
use Rattle.serve_connections.proofs.worker.Worker.due_at.Goals as goal

pub returns-in_err-key : goal.returns-in_err-key
returns-in_err-key g c =
    let past : length c.args.self.now.order.items ≤ c.args.place = search rules in
    rw c.from_residual.ensures (ap (holds_at true) (served_past c.args.self.now.clients c.args.self.now.order.items c.args.place c.args.self.now.kept past))

pub returns-then-is_noted : goal.returns-then-is_noted
returns-then-is_noted g c =
    let keys = c.args.self.now.order.items in
    let notes = c.args.self.now.resting.notes.items in
    let within : c.args.place < length c.args.self.now.order.items = search rules in
    let key : c.in_ok-key.field-0.now ≡ get_or c.args.self.now.order.items c.args.place 0 = search rules in
    let noted : is_noted c.args.self.now.resting.notes.items (get_or c.args.self.now.order.items c.args.place 0) ≡ true =
    ap (is_noted c.args.self.now.resting.notes.items) (sym key) ∙ sym c.is_noted.ensures ∙ c.if-is_noted.true in
    ap (holds_at true) (sym (served_get c.args.self.now.clients keys c.args.place 0 c.args.self.now.kept within))
    ∙ rest_here c.args.self.now.clients notes keys c.args.place 0 within c.args.self.now.at_rest noted

pub returns : goal.returns
returns g c =
    let keys = c.args.self.now.order.items in
    let within : c.args.place < length c.args.self.now.order.items = search rules in
    let key : c.in_ok-key.field-0.now ≡ get_or c.args.self.now.order.items c.args.place 0 = search rules in
    let found : option_copied c.get-2.result ≡ slice_get (served c.args.self.now.clients c.args.self.now.order.items) c.args.place =
    c.get-2.ensures ∙ ap (get c.args.self.now.clients) key
    ∙ served_get c.args.self.now.clients keys c.args.place 0 c.args.self.now.kept within in
    rw found (finds (slice_get (served c.args.self.now.clients c.args.self.now.order.items) c.args.place))
