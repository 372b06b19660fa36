use Rattle.std.proofs.Common.{ℕ, ◌-◌, ap, subst, ◌∙◌}
use Rattle.serve_connections.proofs.Turnings.{deals}
use Rattle.serve_connections.specs.Turning.{around, Tells, dealt, dealt_texts}
use Rattle.serve_connections.specs.declared.sparing.TheConstants.{MAX_UNSENT}
use Rattle.serve_connections.proofs.connection.Connection.deal.Goals as goal

pub returns : goal.returns
returns g c =
    let d = c.take-delivery in
    deals (around g.S.Read.remaining g.S.Write.contents g.P.Port.step g.H.PresenceHooks c.args.hooks.now) c.args.self.now d.new.self c.send_dealt.new.self c.args.port.now d.new.port
    d.result.0 c.saturating_sub-room.result d.result.1 c.is_under_way-telling.result c.send_dealt.result
    (c.saturating_sub-room.ensures ∙ ap (λ (n : ℕ). MAX_UNSENT - n) c.waiting.ensures) c.is_under_way-telling.ensures d.ensures.failed d.ensures.delivered d.ensures.kept
    (subst (λ (n : ℕ). Tells g.S.Write.contents d.new.self.settings n d.new.self.socket c.send_dealt.new.self.socket (dealt_texts d.result.0) (dealt c.send_dealt.result)) c.pid-pid.ensures c.send_dealt.ensures.sent)
    c.send_dealt.ensures.more c.send_dealt.ensures.kept
