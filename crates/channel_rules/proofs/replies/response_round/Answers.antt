use Rattle.std.proofs.Common.{◌∙◌, ap}
use Rattle.std.proofs.lemmas.Result.{IfOk-weaker}
use Rattle.phx_message.specs.Pushing.{ok_text}
use Rattle.channel_rules.proofs.replies.response_round.Goals as goal

pub returns : goal.returns
returns c =
    IfOk-weaker c.reply_text.result _ _ (λ s e.
    e ∙ ap (ok_text c.args.join_ref.now c.args.message.now.msg_ref c.args.message.now.topic) c.requires
    ∙ c.replies_are_written.ensures c.args.join_ref.now c.args.message.now.msg_ref c.args.message.now.topic c.args._response.now)
    c.reply_text.ensures
