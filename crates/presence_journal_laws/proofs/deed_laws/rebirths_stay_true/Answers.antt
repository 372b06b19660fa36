use Rattle.presence_journal_laws.proofs.Rebirths.{rebirths_stay_true, rebirths_are_deeds, rebirths_go_on}
use Rattle.presence_journal_laws.proofs.deed_laws.rebirths_stay_true.Goals as goal

pub returns-clause-history : goal.returns-clause-history
returns-clause-history c = rebirths_stay_true

pub returns-clause-deeds : goal.returns-clause-deeds
returns-clause-deeds c = rebirths_are_deeds

pub returns-clause-later : goal.returns-clause-later
returns-clause-later c = rebirths_go_on
