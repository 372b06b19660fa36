use Rattle.session_laws.proofs.Playing.{rules_are_played, deliveries_are_played}
use Rattle.session_laws.proofs.laws.local_texts.Goals as goal

pub returns-clause-rules : goal.returns-clause-rules
returns-clause-rules c = rules_are_played

pub returns-clause-deliveries : goal.returns-clause-deliveries
returns-clause-deliveries c = deliveries_are_played
