use Rattle.presence_journal_laws.proofs.Checkpoints.{lives_begin_true as the_proof}
use Rattle.presence_journal_laws.proofs.deed_laws.lives_begin_true.Goals as goal

pub returns : goal.returns
returns c = the_proof
