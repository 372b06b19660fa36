use Rattle.presence_journal.proofs.FoldOthers.{others_stay, others_hear_nothing, refused_stays}
use Rattle.presence_journal.proofs.Fresh.{only_named_leave}
use Rattle.presence_journal_laws.proofs.laws.nothing_else_changes.Goals as goal

pub returns-clause-rows : goal.returns-clause-rows
returns-clause-rows c = only_named_leave

pub returns-clause-others : goal.returns-clause-others
returns-clause-others c = others_stay

pub returns-clause-items : goal.returns-clause-items
returns-clause-items c = others_hear_nothing

pub returns-clause-refused : goal.returns-clause-refused
returns-clause-refused c = refused_stays
