use Rattle.std.proofs.Common.{◌≡◌, ◌<◌, ◌-◌, length, drop, take, sym, ap, ◌∙◌, refl}
use Rattle.tungstenite.specs.Socket.{Socket}
use Rattle.tungstenite.proofs.SocketLemmas.{sent-same, sent-write, take-left, drop-drop}
use Rattle.serve_sockets.proofs.web_socket.WebSocket.send_some.Goals as goal

pub returns-in-Ok : goal.returns-in-Ok
returns-in-Ok g c =
    let cf = g.S.Write.contents in
    let s = c.self.inside in
    let v0 = c.args.self.now in
    let v1 : Socket g.row.S.Denot = record { stream = s.stream; conn = s.context; input = drop s.start s.input.items; output = drop s.sent s.output.items } in
    let n = c.in-Ok.count in
    let tk : take (length c.deref.result.now - s.sent) (drop s.sent c.deref.result.now) ≡ drop s.sent s.output.items = rw c.deref.ensures.value (take-left s.sent s.output.items) in
    let a = rw tk at c.in-Ok.ensures.bytes in
    let ve : drop s.sent s.output.items ≡ v0.output = ap (λ (x : Socket g.row.S.Denot). x.output) c.self.view_is in
    let pos : 0 < length (drop s.sent s.output.items) = rw ve c.requires in
    sent-write cf v0 v1 _ n (sent-same cf v0 v1 (sym c.self.view_is)) pos a (c.give_back.ensures.same ∙ sym (drop-drop s.sent n s.output.items)) refl refl
