use Rattle.presence_journal_laws.proofs.More.{told_stays_true, others_stay_true}
use Rattle.presence_journal_laws.proofs.deed_laws.others_stay_true.Goals as goal

pub returns-clause-histories : goal.returns-clause-histories
returns-clause-histories c = others_stay_true

pub returns-clause-told : goal.returns-clause-told
returns-clause-told c = told_stays_true
