use Rattle.session_laws.proofs.Named.{texts_keep_names, deliveries_keep_names, ends_keep_names}
use Rattle.session_laws.proofs.ended.names_its_topics.Goals as goal

pub returns-clause-texts : goal.returns-clause-texts
returns-clause-texts c = texts_keep_names c.nothing_else_changes.ensures.rows

pub returns-clause-deliveries : goal.returns-clause-deliveries
returns-clause-deliveries c = deliveries_keep_names c.nothing_else_changes.ensures.rows

pub returns-clause-ends : goal.returns-clause-ends
returns-clause-ends c = ends_keep_names c.nothing_else_changes.ensures.rows
