use Rattle.presence_metas.proofs.ReadBack.{states_read_back, diffs_read_back}
use Rattle.presence_metas.proofs.laws.frames_read_back.Goals as goal

pub returns-clause-states : goal.returns-clause-states
returns-clause-states c = states_read_back

pub returns-clause-diffs : goal.returns-clause-diffs
returns-clause-diffs c = diffs_read_back
