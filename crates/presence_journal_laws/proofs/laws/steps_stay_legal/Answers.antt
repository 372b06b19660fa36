use Rattle.presence_journal.proofs.FoldOthers.{stays_legal, stays_kept}
use Rattle.presence_journal_laws.proofs.laws.steps_stay_legal.Goals as goal

pub returns-clause-legal : goal.returns-clause-legal
returns-clause-legal c = stays_legal

pub returns-clause-kept : goal.returns-clause-kept
returns-clause-kept c = stays_kept
