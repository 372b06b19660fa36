use Rattle.presence_journal_laws.proofs.Checkpoints.{checkpoints_stay_true as the_proof}
use Rattle.presence_journal_laws.proofs.deed_laws.checkpoints_stay_true.Goals as goal

pub returns : goal.returns
returns c = the_proof
