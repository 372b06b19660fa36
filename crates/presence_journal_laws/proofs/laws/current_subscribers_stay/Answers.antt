use Rattle.presence_journal_laws.proofs.Told.{current_are_served, folds_stay, others_fall_behind, quiet_stays}
use Rattle.presence_journal_laws.proofs.laws.current_subscribers_stay.Goals as goal

pub returns-clause-current : goal.returns-clause-current
returns-clause-current c = current_are_served

pub returns-clause-folds : goal.returns-clause-folds
returns-clause-folds c = folds_stay

pub returns-clause-others : goal.returns-clause-others
returns-clause-others c = others_fall_behind

pub returns-clause-queues : goal.returns-clause-queues
returns-clause-queues c = quiet_stays
