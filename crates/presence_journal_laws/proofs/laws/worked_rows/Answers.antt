use Rattle.presence_journal_laws.proofs.WorkedRuns.{as_worked}
use Rattle.presence_journal_laws.proofs.laws.worked_rows.Goals as goal

pub returns : goal.returns
returns c = as_worked
