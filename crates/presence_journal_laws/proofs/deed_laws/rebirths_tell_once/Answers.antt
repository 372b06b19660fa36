use Rattle.presence_journal_laws.proofs.OneDiff.{rebirth_tells_once as the_proof}
use Rattle.presence_journal_laws.proofs.deed_laws.rebirths_tell_once.Goals as goal

pub returns : goal.returns
returns c = the_proof
