use Rattle.presence_journal.proofs.Fresh.{new_is_unknown, new_is_counted, rows_are_known, refs_are_distinct}
use Rattle.presence_journal_laws.proofs.laws.new_dots.Goals as goal

pub returns-clause-fresh : goal.returns-clause-fresh
returns-clause-fresh c = new_is_unknown

pub returns-clause-counted : goal.returns-clause-counted
returns-clause-counted c = new_is_counted

pub returns-clause-rows : goal.returns-clause-rows
returns-clause-rows c = rows_are_known

pub returns-clause-references : goal.returns-clause-references
returns-clause-references c = refs_are_distinct
