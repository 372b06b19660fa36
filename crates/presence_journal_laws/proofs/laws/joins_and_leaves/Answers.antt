use Rattle.presence_journal.proofs.FoldTables.{changes_lead}
use Rattle.presence_journal.proofs.FoldPresent.{diffs_lead}
use Rattle.presence_journal_laws.proofs.laws.joins_and_leaves.Goals as goal

pub returns-clause-tables : goal.returns-clause-tables
returns-clause-tables c = changes_lead

pub returns-clause-entries : goal.returns-clause-entries
returns-clause-entries c = diffs_lead
