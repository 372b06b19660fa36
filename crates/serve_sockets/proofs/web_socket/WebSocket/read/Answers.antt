use Rattle.std.proofs.Common.{Err, ◌⊎◌, refl, inl, inr, Some, ◌∷◌, ◌++◌, sym, ap, ◌∙◌, ◌≡◌, [], drop, false}
use Rattle.tungstenite.specs.Socket.{Socket, content_of}
use Rattle.websocket.specs.Connection.{read_step, Connection, can_read}
use Rattle.tungstenite.specs.Failure.{ReadFails, IsOutside, of_frame}
use Rattle.std.specs.Io.KnownBytes.{IsAtEnd}
use Rattle.websocket.specs.declared.error.Error.{Error as FrameError}
use Rattle.tungstenite.specs.declared.error.Error.TheVariants.{OutOfMemory}
use Rattle.tungstenite.proofs.SocketLemmas.{frame-ended, failed-read, end-not-memory, io-outside, keeps-same, frame-fails, frame-not-io, outside-open, read-err, progress-start, progress-sent, progress-filled, progress-frame, read-ok, frame-facts, partial-facts, gave-none, gave-some, socket-eta, progress-cast, sends-cast}
use Rattle.serve_sockets.proofs.web_socket.WebSocket.read.Goals as goal
use Rattle.serve_sockets.proofs.web_socket.WebSocket.read.Goals.{in-Partial+in_default-fill, in-Complete+in_default-finish_frame}

pub loop-init : goal.loop-init
loop-init g c = ([], [], [], progress-start g.S.Read.remaining c.args.self.now)

pub finish_frame-requires-clause-consumed : goal.finish_frame-requires-clause-consumed
finish_frame-requires-clause-consumed g c =
    let keep = rw c.in-Complete.is at c.in-Ok.ensures.keeps_rest in
    rw c.in-Ok.ensures.same_len keep.0

pub returns-in-Err : goal.returns-in-Err
returns-in-Err g c =
    let rem = g.S.Read.remaining in
    let old = c.args.self.now in
    let v = c.loop.self in
    let v1 = c.send_pending.new.self in
    let inv = c.loop.invariant in
    let p1 = progress-sent rem g.S.Write.contents old v v1 inv.0 inv.1 inv.2 inv.3 c.send_pending.ensures.sent in
    read-err rem old v1 v1 _ c.in-Err.error refl (inl c.in-Err.ensures.failed) (λ _. (refl, refl, refl)) (λ q. absurd (outside-open _ c.in-Err.ensures.failed q)) (λ _. keeps-same _) (λ _. inl (refl, refl)) (inl c.in-Err.ensures.failed) (inv.0, inv.1, p1.0, p1.1)

pub returns-in-Err-fill : goal.returns-in-Err-fill
returns-in-Err-fill g c =
    let rem = g.S.Read.remaining in
    let old = c.args.self.now in
    let v = c.loop.self in
    let v1 = c.send_pending.new.self in
    let v2 = c.read_frame.new.self in
    let inv = c.loop.invariant in
    let p1 = progress-sent rem g.S.Write.contents old v v1 inv.0 inv.1 inv.2 inv.3 c.send_pending.ensures.sent in
    let n = c.in-Partial.field-0 in
    let rr = rw c.in-Partial.is at c.in-Ok.ensures.returns in
    let keep = rw c.in-Partial.is at c.in-Ok.ensures.keeps_rest in
    let pf = partial-facts _ v2.input n v1.conn v2.conn v1.output v2.output rr c.in-Ok.ensures.leaves in
    let same : v1 ≡ v2 = socket-eta v1 v2 (sym c.in-Ok.ensures.stream) (sym pf.0) (sym keep) (sym pf.1) in
    let p2 = progress-cast rem old v1 v2 inv.0 inv.1 p1.0 same p1.1 in
    let e = c.in-Err-fill.error in
    let why : ReadFails v2.conn v2.input e =
    elim c.in-Err-fill.ensures.failed [
      | inl a ↦ inl a
      | inr b ↦ inr (inr b)
    ] in
    let memory : e ≡ OutOfMemory → ((c.fill.new.self.conn ≡ v2.conn) × (c.fill.new.self.input ≡ v2.input)) ⊎ (can_read c.fill.new.self.conn.state ≡ false) =
    λ q. elim c.in-Err-fill.ensures.failed [
      | inl a ↦ let w = c.in-Err-fill.ensures.kept a in inl (w.0, w.1)
      | inr b ↦ absurd (end-not-memory v2.conn.state (sym b ∙ q))
    ] in
    let ended : IsOutside e ⊎ ((y : FrameError) × (read_step v2.conn v2.input ≡ Err y) × (e ≡ of_frame y)) ⊎ IsAtEnd (rem c.fill.new.self.stream) =
    elim c.in-Err-fill.ensures.failed [
      | inl a ↦ inl a
      | inr b ↦ elim (c.in-Err-fill.ensures.ended b) [
        | inl a ↦ inl a
        | inr z ↦ inr (inr z)
      ]
    ] in
    let idle : can_read v2.conn.state ≡ false → c.fill.new.self.output ≡ [] =
    λ closed. c.in-Err-fill.ensures.output ∙ pf.1 ∙ c.in_default.ensures.idle (sym (ap (λ (x : Connection). can_read x.state) pf.0) ∙ closed) in
    read-err rem old v2 c.fill.new.self _ e refl why (λ io. c.in-Err-fill.ensures.kept (io-outside e io)) (λ _. idle) c.in-Err-fill.ensures.stream_kept memory ended (inv.0, inv.1, p1.0, p2)

pub returns-in-Ok-message : goal.returns-in-Ok-message
returns-in-Ok-message g c =
    let rem = g.S.Read.remaining in
    let old = c.args.self.now in
    let v = c.loop.self in
    let v1 = c.send_pending.new.self in
    let v2 = c.read_frame.new.self in
    let inv = c.loop.invariant in
    let p1 = progress-sent rem g.S.Write.contents old v v1 inv.0 inv.1 inv.2 inv.3 c.send_pending.ensures.sent in
    let st = c.in-Complete.step in
    let rr = rw c.in-Complete.is at c.in-Ok.ensures.returns in
    let ff = frame-facts _ v2.input st v1.conn v2.conn v1.output v2.output rr c.in-Ok.ensures.leaves in
    let keep = rw c.in-Complete.is at c.in-Ok.ensures.keeps_rest in
    let p = ff.0 in
    let v3 = c.finish_frame.new.self in
    let left = c.finish_frame.ensures.left in
    let cn : v3.conn ≡ p.1.next = ap (λ (x : Socket g.row.S.Denot). x.conn) left ∙ ff.4 in
    let ii : v3.input ≡ drop p.0 v1.input = ap (λ (x : Socket g.row.S.Denot). x.input) left ∙ keep.1 ∙ ap (λ n. drop n v1.input) ff.2 in
    let ss : v3.stream ≡ v1.stream = ap (λ (x : Socket g.row.S.Denot). x.stream) left ∙ c.in-Ok.ensures.stream in
    let oo = sends-cast _ _ v1.output v2.output v3.output (sym (ap (λ (x : Socket g.row.S.Denot). x.output) left)) ff.5 in
    let m = c.in-Ok-message.message in
    let gv = rw (c.in-Some.is, c.in-Ok-message.is) at c.finish_frame.ensures.gives in
    let c1 = p1.1 in
    let mm : p.1.message ≡ Some (content_of m) = sym ff.3 ∙ gave-some _ v2.input st.message m gv in
    read-ok rem old v1 v3 inv.0 inv.1 p1.0 p m c1 ff.1 cn ii ss oo mm

pub loop-preserved : goal.loop-preserved
loop-preserved g c =
    let rem = g.S.Read.remaining in
    let old = c.args.self.now in
    let v = c.loop.self in
    let v1 = c.send_pending.new.self in
    let v2 = c.read_frame.new.self in
    let inv = c.loop.invariant in
    let p1 = progress-sent rem g.S.Write.contents old v v1 inv.0 inv.1 inv.2 inv.3 c.send_pending.ensures.sent in
    elim c.match-status.branch [
      | in-Partial+in_default-fill w ↦
          let n = w.in-Partial.field-0 in
          let rr = rw w.in-Partial.is at c.in-Ok.ensures.returns in
          let keep = rw w.in-Partial.is at c.in-Ok.ensures.keeps_rest in
          let pf = partial-facts _ v2.input n v1.conn v2.conn v1.output v2.output rr c.in-Ok.ensures.leaves in
          let same : v1 ≡ v2 = socket-eta v1 v2 (sym c.in-Ok.ensures.stream) (sym pf.0) (sym keep) (sym pf.1) in
          let f = w.in_default-fill.ensures.filled in
          let p2 = progress-cast rem old v1 v2 inv.0 inv.1 p1.0 same p1.1 in
          rw w.self-is (inv.0, inv.1 ++ f.0, p1.0, progress-filled rem old v2 w.fill.new.self inv.0 inv.1 p1.0 p2 f)
      | in-Complete+in_default-finish_frame w ↦
          let st = w.in-Complete.step in
          let rr = rw w.in-Complete.is at c.in-Ok.ensures.returns in
          let ff = frame-facts _ v2.input st v1.conn v2.conn v1.output v2.output rr c.in-Ok.ensures.leaves in
          let keep = rw w.in-Complete.is at c.in-Ok.ensures.keeps_rest in
          let p = ff.0 in
          let v3 = w.finish_frame.new.self in
          let left = w.finish_frame.ensures.left in
          let cn : v3.conn ≡ p.1.next = ap (λ (x : Socket g.row.S.Denot). x.conn) left ∙ ff.4 in
          let ii : v3.input ≡ drop p.0 v1.input = ap (λ (x : Socket g.row.S.Denot). x.input) left ∙ keep.1 ∙ ap (λ n. drop n v1.input) ff.2 in
          let ss : v3.stream ≡ v1.stream = ap (λ (x : Socket g.row.S.Denot). x.stream) left ∙ c.in-Ok.ensures.stream in
          let oo = sends-cast _ _ v1.output v2.output v3.output (sym (ap (λ (x : Socket g.row.S.Denot). x.output) left)) ff.5 in
          let gv = rw w.in_default-finish_frame.is at w.finish_frame.ensures.gives in
          let mm = sym ff.3 ∙ gave-none _ v2.input st.message gv in
          rw w.self-is (inv.0 ++ p ∷ [], inv.1, p1.0, progress-frame rem old v1 v3 inv.0 inv.1 p1.0 p p1.1 ff.1 cn ii ss oo mm)
    ]

pub returns-in-Err-read_frame : goal.returns-in-Err-read_frame
returns-in-Err-read_frame g c =
    let rem = g.S.Read.remaining in
    let old = c.args.self.now in
    let v = c.loop.self in
    let v1 = c.send_pending.new.self in
    let v2 = c.read_frame.new.self in
    let inv = c.loop.invariant in
    let p1 = progress-sent rem g.S.Write.contents old v v1 inv.0 inv.1 inv.2 inv.3 c.send_pending.ensures.sent in
    let x = c.in-Err-read_frame.error in
    let why = frame-fails v1.conn v1.input x c.in-Err-read_frame.ensures.failed in
    let out : v2.output ≡ v1.output = c.in-Err-read_frame.ensures.err_output in
    read-err rem old v1 v2 _ c.into.result refl (rw c.into.ensures why) (λ io. absurd (frame-not-io x (rw c.into.ensures at io))) (λ q closed. out ∙ c.in_default.ensures.idle closed) (λ io. absurd (frame-not-io x (rw c.into.ensures at io))) (λ _. inr (ap (λ (k : Connection). can_read k.state) c.in-Err-read_frame.ensures.err_state ∙ failed-read v1.conn.state)) (rw c.into.ensures (frame-ended v1.conn v1.input x c.in-Err-read_frame.ensures.failed)) (inv.0, inv.1, p1.0, p1.1)

pub returns-then-reply_has_no_room : goal.returns-then-reply_has_no_room
returns-then-reply_has_no_room g c =
    let rem = g.S.Read.remaining in
    let old = c.args.self.now in
    let v = c.loop.self in
    let v1 = c.send_pending.new.self in
    let inv = c.loop.invariant in
    let p1 = progress-sent rem g.S.Write.contents old v v1 inv.0 inv.1 inv.2 inv.3 c.send_pending.ensures.sent in
    read-err rem old v1 v1 _ _ refl (inl tt) (λ _. (refl, refl, refl)) (λ q. cc) (λ _. keeps-same _) (λ _. inl (refl, refl)) (inl tt) (inv.0, inv.1, p1.0, p1.1)
