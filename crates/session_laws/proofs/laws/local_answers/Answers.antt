use Rattle.presence_stdio.proofs.Locals.{by_the_table, want_stays}
use Rattle.session_laws.proofs.laws.local_answers.Goals as goal

pub returns-clause-table : goal.returns-clause-table
returns-clause-table c = by_the_table

pub returns-clause-memory : goal.returns-clause-memory
returns-clause-memory c = want_stays
