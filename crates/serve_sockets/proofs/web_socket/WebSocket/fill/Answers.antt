use Rattle.std.proofs.Common.{sym, ◌∙◌, take, arith, refl, rules, ◌≡◌, ◌≤◌, ◌<◌, length, drop, ◌++◌}
use Rattle.std.proofs.lemmas.List.{drop-append-le}
use Rattle.tungstenite.proofs.SocketLemmas.{take-take-append}
use Rattle.serve_sockets.proofs.web_socket.WebSocket.fill.Goals as goal

pub returns-in_ok-extend_from_slice-in-Ok : goal.returns-in_ok-extend_from_slice-in-Ok
returns-in_ok-extend_from_slice-in-Ok g c =
    let i = c.self.inside in
    let vw = c.self.view_is ∙ c.compact.ensures in
    let n = c.in-Ok.n in
    let buf = c.read.new.buf in
    let b = c.in-Ok.ensures.bytes in
    let bnd : n ≤ length buf = c.in-Ok.ensures.bound.0 in
    let ln : length buf ≡ length c.deref_mut.result.now = search rules in
    let lv = c.deref_mut.ensures.len in
    let l2 : n ≤ c.sized.new.chunk.len = omega (arith, ln, lv) in
    let tk : take n c.deref.result.now ≡ take n buf = rw c.deref.ensures.value (take-take-append n c.sized.new.chunk.len buf _ l2 bnd) in
    let ee : drop i.start c.extend_from_slice.new.self.items ≡ c.args.self.now.input ++ take n buf =
    rw (c.in_ok-extend_from_slice-in-Ok.ensures.items, tk, c.in_ok-reserve.ensures.items, drop-append-le i.start i.input.items _ c.self.invariant.0, ← vw) refl in
    let pos : 0 < length (take n buf) = rw (sym c.in-Ok.ensures.bound.1) (omega (arith, c.in-Ok.n-test)) in
    record { filled = (take n buf, pos, ee, rw (← vw) b.0, rw (← vw) refl, rw (← vw) refl); failed = tt; kept = tt; output = rw (← vw) refl; stream_kept = tt; ended = tt }
