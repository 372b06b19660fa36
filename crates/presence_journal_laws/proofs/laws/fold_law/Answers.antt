use Rattle.presence_journal.proofs.Fold.{folds_to_present}
use Rattle.presence_journal_laws.proofs.laws.fold_law.Goals as goal

pub returns : goal.returns
returns c = folds_to_present
