use Rattle.presence_journal_laws.proofs.Worked.{start_stands}
use Rattle.presence_journal_laws.proofs.laws.worked_checkpoint.Goals as goal

pub returns : goal.returns
returns c = start_stands
