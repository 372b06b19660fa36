use Rattle.channel_rules.specs.Said.{Worded}
use Rattle.phx_message.specs.Reading.{decoded}
use Rattle.phx_message.specs.declared.message.TheConstants.Limits as the_limits
use Rattle.serve_connections.proofs.GrantLemmas.{ran_inside, same_inside}
use Rattle.serve_connections.proofs.granting.GrantedPort.run.Goals as goal

pub returns-clause-same_port : goal.returns-clause-same_port
returns-clause-same_port g c =
    let hooks = c.args.channels.hooks.now in
    same_inside (g.P.Port.step c.args.session.now.pid) c.args.channels.routes.now c.args.session.now (decoded the_limits.CLIENT c.args.text.now) (Worded (g.H.PresenceHooks.fetched hooks) (g.H.PresenceHooks.plain hooks))
    (c.args.self.now, c.args.telling.now.untold) (c.run_pieces.new.port, c.run_pieces.new.telling.untold) c.run_pieces.new.session c.run_pieces.result c.run_pieces.ensures

pub returns-clause-ran : goal.returns-clause-ran
returns-clause-ran g c =
    let hooks = c.args.channels.hooks.now in
    ran_inside (g.P.Port.step c.args.session.now.pid) c.args.channels.routes.now c.args.session.now (decoded the_limits.CLIENT c.args.text.now) (Worded (g.H.PresenceHooks.fetched hooks) (g.H.PresenceHooks.plain hooks))
    (c.args.self.now, c.args.telling.now.untold) (c.run_pieces.new.port, c.run_pieces.new.telling.untold) c.run_pieces.new.session c.run_pieces.result c.run_pieces.ensures
