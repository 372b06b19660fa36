use Rattle.presence_journal_cuts.proofs.Sound.{full_stands}
use Rattle.presence_journal_laws.proofs.Told.{keeps_set, keeps_full}
use Rattle.presence_journal_laws.proofs.laws.full_values_stay.Goals as goal

pub returns-clause-set : goal.returns-clause-set
returns-clause-set c = keeps_set

pub returns-clause-full : goal.returns-clause-full
returns-clause-full c = keeps_full

pub returns-clause-content : goal.returns-clause-content
returns-clause-content c = full_stands
