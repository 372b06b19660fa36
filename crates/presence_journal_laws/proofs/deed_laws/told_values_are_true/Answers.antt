use Rattle.presence_journal_laws.proofs.Telling.{cuts_tell_true, fulls_tell_true, joined_tell_true}
use Rattle.presence_journal_laws.proofs.Keeping.{kept_tell_true}
use Rattle.presence_journal_laws.proofs.Parts.{parts_tell_true}
use Rattle.presence_journal_laws.proofs.deed_laws.told_values_are_true.Goals as goal

pub returns-clause-cut : goal.returns-clause-cut
returns-clause-cut c = cuts_tell_true

pub returns-clause-full : goal.returns-clause-full
returns-clause-full c = fulls_tell_true

pub returns-clause-joined : goal.returns-clause-joined
returns-clause-joined c = joined_tell_true

pub returns-clause-from : goal.returns-clause-from
returns-clause-from c = kept_tell_true

pub returns-clause-part : goal.returns-clause-part
returns-clause-part c = parts_tell_true
