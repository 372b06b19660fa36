use Rattle.std.proofs.Common.{◌≡◌, ℕ, Bool, List, bytes_eq, codes, not, refl, rules, subst}
use Rattle.serve_handshakes.specs.Replies.{IsPlainReply, IsReplyTo}
use Rattle.serve_handshakes.specs.declared.answer.Answer.{Answer}
use Rattle.serve_handshakes.specs.declared.answer.Answer.TheVariants.{Socket, Page, Script, Health, Metrics, BadRequest, Forbidden, NotFound, NotAllowed, Options, NoHost, LongHead, LongBody, Elsewhere, Unwell, Draining, Full, Crowded, Hasty, Unauthorized}
use Rattle.serve_handshakes.specs.declared.head.Request.{Request}
use Rattle.serve_handshakes.proofs.replying.reply_of.Goals as goal

-- where no WebSocket is opened, the reply is a plain one
plain_is : (request : Request) (metrics : List ℕ) (answer : Answer) (is_sent : Bool) (reply : List ℕ × Bool) → ((p : Bool) → answer ≡ Socket p → ⊥)
    → is_sent ≡ not (bytes_eq request.method.now (codes "HEAD")) → IsPlainReply metrics answer is_sent reply → IsReplyTo request metrics answer reply
plain_is request metrics (Socket p) is_sent reply other sent h = absurd (other p refl)
plain_is request metrics Page is_sent reply other sent h = subst (λ b. IsPlainReply metrics Page b reply) sent h
plain_is request metrics Script is_sent reply other sent h = subst (λ b. IsPlainReply metrics Script b reply) sent h
plain_is request metrics Health is_sent reply other sent h = subst (λ b. IsPlainReply metrics Health b reply) sent h
plain_is request metrics Metrics is_sent reply other sent h = subst (λ b. IsPlainReply metrics Metrics b reply) sent h
plain_is request metrics BadRequest is_sent reply other sent h = subst (λ b. IsPlainReply metrics BadRequest b reply) sent h
plain_is request metrics Forbidden is_sent reply other sent h = subst (λ b. IsPlainReply metrics Forbidden b reply) sent h
plain_is request metrics NotFound is_sent reply other sent h = subst (λ b. IsPlainReply metrics NotFound b reply) sent h
plain_is request metrics NotAllowed is_sent reply other sent h = subst (λ b. IsPlainReply metrics NotAllowed b reply) sent h
plain_is request metrics Options is_sent reply other sent h = subst (λ b. IsPlainReply metrics Options b reply) sent h
plain_is request metrics NoHost is_sent reply other sent h = subst (λ b. IsPlainReply metrics NoHost b reply) sent h
plain_is request metrics LongHead is_sent reply other sent h = subst (λ b. IsPlainReply metrics LongHead b reply) sent h
plain_is request metrics LongBody is_sent reply other sent h = subst (λ b. IsPlainReply metrics LongBody b reply) sent h
plain_is request metrics Elsewhere is_sent reply other sent h = subst (λ b. IsPlainReply metrics Elsewhere b reply) sent h
plain_is request metrics Unwell is_sent reply other sent h = subst (λ b. IsPlainReply metrics Unwell b reply) sent h
plain_is request metrics Draining is_sent reply other sent h = subst (λ b. IsPlainReply metrics Draining b reply) sent h
plain_is request metrics Full is_sent reply other sent h = subst (λ b. IsPlainReply metrics Full b reply) sent h
plain_is request metrics Crowded is_sent reply other sent h = subst (λ b. IsPlainReply metrics Crowded b reply) sent h
plain_is request metrics Hasty is_sent reply other sent h = subst (λ b. IsPlainReply metrics Hasty b reply) sent h
plain_is request metrics (Unauthorized why) is_sent reply other sent h = subst (λ b. IsPlainReply metrics (Unauthorized why) b reply) sent h

pub returns-in_default : goal.returns-in_default
returns-in_default c =
    plain_is c.args.request.now c.args.metrics.now c.args.answer _ c.in_ok-plain.field-0 c.in_default.not-Socket (search rules) c.in_ok-plain.ensures
