use Rattle.std.proofs.Common.{◌∙◌, ap, cond, [], false}
use Rattle.std.proofs.lemmas.Result.{IfOk-weaker}
use Rattle.serve_handshakes.specs.Heads.{plain_bytes}
use Rattle.serve_handshakes.specs.Replies.{status_in}
use Rattle.serve_handshakes.proofs.replying.text_reply.Goals as goal

pub returns : goal.returns
returns c =
    let body = c.body_of-body.result.now in
    let sent = cond c.args.is_sent body [] in
    IfOk-weaker c.plain_reply.result _ _
    (λ r a. (
      body,
      c.body_of-body.ensures,
      a ∙ ap (λ status. (plain_bytes status c.kind_of.result.now body sent, false)) c.status_of.ensures
          ∙ ap (λ kind. (plain_bytes (status_in c.args.answer) kind body sent, false)) c.kind_of.ensures,
    ))
    c.plain_reply.ensures
