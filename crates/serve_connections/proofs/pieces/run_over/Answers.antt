use Rattle.channel_rules.specs.Said.{Worded}
use Rattle.phx_message.specs.Reading.{decoded}
use Rattle.phx_message.specs.declared.message.TheConstants.Limits as the_limits
use Rattle.serve_connections.proofs.PieceLemmas.{texts_in_pieces, texts_keep}
use Rattle.serve_connections.proofs.pieces.run_over.Goals as goal

pub returns-clause-same_port : goal.returns-clause-same_port
returns-clause-same_port g c =
    let hooks = c.args.channels.hooks.now in
    texts_keep (g.P.Port.step c.args.session.now.pid) (λ p. p.port.ghost_name) (λ a q x b h. h.0) (Worded (g.H.PresenceHooks.fetched hooks) (g.H.PresenceHooks.plain hooks)) c.args.channels.routes.now
    c.args.session.now (decoded the_limits.CLIENT c.args.text.now) c.args.pieces.now c.run_text.new.port c.run_text.new.session c.run_text.result c.run_text.ensures.ran

pub returns-clause-same_telling : goal.returns-clause-same_telling
returns-clause-same_telling g c =
    let hooks = c.args.channels.hooks.now in
    texts_keep (g.P.Port.step c.args.session.now.pid) (λ p. p.telling.ghost_name) (λ a q x b h. h.1) (Worded (g.H.PresenceHooks.fetched hooks) (g.H.PresenceHooks.plain hooks)) c.args.channels.routes.now
    c.args.session.now (decoded the_limits.CLIENT c.args.text.now) c.args.pieces.now c.run_text.new.port c.run_text.new.session c.run_text.result c.run_text.ensures.ran

pub returns-clause-ran : goal.returns-clause-ran
returns-clause-ran g c =
    let hooks = c.args.channels.hooks.now in
    texts_in_pieces (g.P.Port.step c.args.session.now.pid) (Worded (g.H.PresenceHooks.fetched hooks) (g.H.PresenceHooks.plain hooks)) c.args.channels.routes.now
    c.args.session.now (decoded the_limits.CLIENT c.args.text.now) c.args.pieces.now c.run_text.new.port c.run_text.new.session c.run_text.result c.run_text.ensures.ran
