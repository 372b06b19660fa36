use Rattle.std.proofs.Common.{◌≡◌, ℕ, Bool, List, refl}
use Rattle.std.proofs.lemmas.Result.{IfOk-weaker}
use Rattle.serve_handshakes.specs.Replies.{IsPlainReply, IsTextReply}
use Rattle.serve_handshakes.specs.declared.answer.Answer.{Answer}
use Rattle.serve_handshakes.specs.declared.answer.Answer.TheVariants.{Socket, Page, Script, Health, Metrics, BadRequest, Forbidden, NotFound, NotAllowed, Options, NoHost, LongHead, LongBody, Elsewhere, Unwell, Draining, Full, Crowded, Hasty, Unauthorized}
use Rattle.serve_handshakes.proofs.replying.plain.Goals as goal

-- a text is the reply, where it isn't the methods that are told
text_is : (metrics : List ℕ) (answer : Answer) (is_sent : Bool) (reply : List ℕ × Bool) → (answer ≡ Options → ⊥)
    → IsTextReply metrics answer is_sent reply → IsPlainReply metrics answer is_sent reply
text_is metrics Options is_sent reply other h = absurd (other refl)
text_is metrics (Socket p) is_sent reply other h = h
text_is metrics Page is_sent reply other h = h
text_is metrics Script is_sent reply other h = h
text_is metrics Health is_sent reply other h = h
text_is metrics Metrics is_sent reply other h = h
text_is metrics BadRequest is_sent reply other h = h
text_is metrics Forbidden is_sent reply other h = h
text_is metrics NotFound is_sent reply other h = h
text_is metrics NotAllowed is_sent reply other h = h
text_is metrics NoHost is_sent reply other h = h
text_is metrics LongHead is_sent reply other h = h
text_is metrics LongBody is_sent reply other h = h
text_is metrics Elsewhere is_sent reply other h = h
text_is metrics Unwell is_sent reply other h = h
text_is metrics Draining is_sent reply other h = h
text_is metrics Full is_sent reply other h = h
text_is metrics Crowded is_sent reply other h = h
text_is metrics Hasty is_sent reply other h = h
text_is metrics (Unauthorized why) is_sent reply other h = h

pub returns-in_default : goal.returns-in_default
returns-in_default c =
    IfOk-weaker c.text_reply.result _ _ (λ r h. text_is c.args.metrics.now c.args.answer c.args.is_sent r c.in_default.not-Options h) c.text_reply.ensures
