use Rattle.presence_journal.proofs.Merges.{live_stays, shown_stays}
use Rattle.presence_journal_laws.proofs.laws.touched_dots_change.Goals as goal

pub returns-clause-live : goal.returns-clause-live
returns-clause-live c = live_stays

pub returns-clause-shown : goal.returns-clause-shown
returns-clause-shown c = shown_stays
