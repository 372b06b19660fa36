use Rattle.serde_json.specs.View.{view}
use Rattle.channel_session.specs.Ending.{topics_named}
use Rattle.channel_session.specs.Ran.{texts_in}
use Rattle.serve_connections.proofs.Renewals.{tells_refusal, tells_renewal}
use Rattle.serve_connections.proofs.connection.Connection.renew.Goals as goal

pub returns-in-Ok-renewed_texts-clause-told : goal.returns-in-Ok-renewed_texts-clause-told
returns-in-Ok-renewed_texts-clause-told g c =
    tells_renewal c.args.signing c.args.self.now.grant c.args.message.now (topics_named c.args.self.now.session) (view c.as_value-payload.result.now) c.in-Ok.next (texts_in c.in-Ok-renewed_texts.texts)
    c.as_value-payload.ensures c.in-Ok.ensures c.in-Ok-renewed_texts.ensures

pub returns-in-Err-clause-told : goal.returns-in-Err-clause-told
returns-in-Err-clause-told g c =
    tells_refusal c.args.signing c.args.self.now.grant c.args.message.now (topics_named c.args.self.now.session) (view c.as_value-payload.result.now) c.in-Err.why c.refused_texts.result
    c.as_value-payload.ensures c.in-Err.ensures c.refused_texts.ensures
