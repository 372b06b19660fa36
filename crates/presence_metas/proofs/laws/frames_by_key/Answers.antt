use Rattle.presence_metas.proofs.ByKey.{states_are_read, diffs_are_read}
use Rattle.presence_metas.proofs.laws.frames_by_key.Goals as goal

pub returns-clause-states : goal.returns-clause-states
returns-clause-states c = states_are_read

pub returns-clause-diffs : goal.returns-clause-diffs
returns-clause-diffs c = diffs_are_read
