use Rattle.channel_rules.specs.Said.{Worded, Noted}
use Rattle.serve_connections.proofs.PieceLemmas.{deliveries_keep, delivered_in_pieces}
use Rattle.serve_connections.specs.declared.connection.TheConstants.{MAX_DEALT}
use Rattle.serve_connections.proofs.pieces.deliver_over.Goals as goal

pub returns-clause-same_port : goal.returns-clause-same_port
returns-clause-same_port g c =
    let G = g.H.PresenceHooks in
    let hooks = c.args.hooks.now in
    let d = c.deliver_within in
    deliveries_keep (g.P.Port.step c.args.session.now.pid) (λ p. p.port.ghost_name) (λ a q x b h. h.0) (Worded (G.fetched hooks) (G.plain hooks)) (Noted (G.joined hooks) (G.left hooks) (G.quiet hooks)) MAX_DEALT
    c.args.session.now c.args.pieces.now d.new.port c.args.room d.result.1 d.new.session d.result.0 c.args.session.now.failed (λ is. (d.ensures.failed is).2) d.ensures.delivered

pub returns-clause-same_telling : goal.returns-clause-same_telling
returns-clause-same_telling g c =
    let G = g.H.PresenceHooks in
    let hooks = c.args.hooks.now in
    let d = c.deliver_within in
    deliveries_keep (g.P.Port.step c.args.session.now.pid) (λ p. p.telling.ghost_name) (λ a q x b h. h.1) (Worded (G.fetched hooks) (G.plain hooks)) (Noted (G.joined hooks) (G.left hooks) (G.quiet hooks)) MAX_DEALT
    c.args.session.now c.args.pieces.now d.new.port c.args.room d.result.1 d.new.session d.result.0 c.args.session.now.failed (λ is. (d.ensures.failed is).2) d.ensures.delivered

pub returns-clause-delivered : goal.returns-clause-delivered
returns-clause-delivered g c is =
    let G = g.H.PresenceHooks in
    let hooks = c.args.hooks.now in
    let d = c.deliver_within in
    delivered_in_pieces (g.P.Port.step c.args.session.now.pid) (Worded (G.fetched hooks) (G.plain hooks)) (Noted (G.joined hooks) (G.left hooks) (G.quiet hooks)) MAX_DEALT
    c.args.session.now c.args.pieces.now d.new.port c.args.room d.result.1 d.new.session d.result.0 (d.ensures.delivered is)
