use Rattle.presence_journal_laws.proofs.Entries.{entries_are_deeds}
use Rattle.presence_journal_laws.proofs.More.{entries_go_on}
use Rattle.presence_journal_laws.proofs.Keeping.{entries_stay_true}
use Rattle.presence_journal_laws.proofs.deed_laws.entries_stay_true.Goals as goal

pub returns-clause-history : goal.returns-clause-history
returns-clause-history c = entries_stay_true

pub returns-clause-deeds : goal.returns-clause-deeds
returns-clause-deeds c = entries_are_deeds

pub returns-clause-later : goal.returns-clause-later
returns-clause-later c = entries_go_on
