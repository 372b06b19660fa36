use Rattle.presence_metas.proofs.ByKey.{rows_by_key, states_by_key}
use Rattle.presence_metas.proofs.laws.rows_by_key.Goals as goal

pub returns-clause-lists : goal.returns-clause-lists
returns-clause-lists c = rows_by_key

pub returns-clause-states : goal.returns-clause-states
returns-clause-states c = states_by_key
