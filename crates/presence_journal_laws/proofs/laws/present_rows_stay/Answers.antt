use Rattle.presence_journal_laws.proofs.Shown.{keeps_shown, keeps_live, keeps_removed, live_is_kept, keeps_present, keeps_listed}
use Rattle.presence_journal_laws.proofs.laws.present_rows_stay.Goals as goal

pub returns-clause-shown : goal.returns-clause-shown
returns-clause-shown c = keeps_shown

pub returns-clause-live : goal.returns-clause-live
returns-clause-live c = keeps_live

pub returns-clause-removed : goal.returns-clause-removed
returns-clause-removed c = keeps_removed

pub returns-clause-kept : goal.returns-clause-kept
returns-clause-kept c = live_is_kept

pub returns-clause-present : goal.returns-clause-present
returns-clause-present c = keeps_present

pub returns-clause-listed : goal.returns-clause-listed
returns-clause-listed c = keeps_listed
