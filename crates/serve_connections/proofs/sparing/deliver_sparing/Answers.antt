use Rattle.channel_rules.specs.Said.{Worded, Noted}
use Rattle.serve_connections.proofs.Sparings.{sparing_keeps, sparing_delivers}
use Rattle.serve_connections.specs.declared.connection.TheConstants.{MAX_DEALT}
use Rattle.serve_connections.proofs.sparing.deliver_sparing.Goals as goal

pub returns-clause-same_port : goal.returns-clause-same_port
returns-clause-same_port g c =
    let G = g.H.PresenceHooks in
    let hooks = c.args.hooks.now in
    sparing_keeps (g.P.Port.step c.args.session.now.pid) (Worded (G.fetched hooks) (G.plain hooks)) (Noted (G.joined hooks) (G.left hooks) (G.quiet hooks)) MAX_DEALT c.args.session.now
    c.args.port.now c.deliver.new.port c.deliver.new.session c.deliver.result c.args.session.now.failed c.deliver.ensures.failed c.deliver.ensures.delivered

pub returns-clause-delivered : goal.returns-clause-delivered
returns-clause-delivered g c is =
    let G = g.H.PresenceHooks in
    let hooks = c.args.hooks.now in
    sparing_delivers (g.P.Port.step c.args.session.now.pid) (Worded (G.fetched hooks) (G.plain hooks)) (Noted (G.joined hooks) (G.left hooks) (G.quiet hooks)) MAX_DEALT c.args.session.now
    c.args.port.now c.deliver.new.port c.deliver.new.session c.deliver.result (c.deliver.ensures.delivered is)
