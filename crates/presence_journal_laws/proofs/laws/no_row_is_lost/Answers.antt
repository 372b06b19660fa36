use Rattle.presence_journal.proofs.AfterRebirth.{rebirth_loses_no_row}
use Rattle.presence_journal_laws.proofs.laws.no_row_is_lost.Goals as goal

pub returns : goal.returns
returns c = rebirth_loses_no_row
