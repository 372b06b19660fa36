use Rattle.session_laws.proofs.Known.{texts_keep_subs, deliveries_keep_subs, ends_keep_subs}
use Rattle.session_laws.proofs.ended.knows_its_subscribers.Goals as goal

pub returns-clause-texts : goal.returns-clause-texts
returns-clause-texts c = texts_keep_subs

pub returns-clause-deliveries : goal.returns-clause-deliveries
returns-clause-deliveries c = deliveries_keep_subs

pub returns-clause-ends : goal.returns-clause-ends
returns-clause-ends c = ends_keep_subs
