use Rattle.presence_journal_laws.proofs.Told.{one_kept_each, others_keep, keeps_kept_deltas, keeps_told_from}
use Rattle.presence_journal_laws.proofs.laws.kept_deltas_stay.Goals as goal

pub returns-clause-once : goal.returns-clause-once
returns-clause-once c = one_kept_each

pub returns-clause-others : goal.returns-clause-others
returns-clause-others c = others_keep

pub returns-clause-kept : goal.returns-clause-kept
returns-clause-kept c = keeps_kept_deltas

pub returns-clause-told : goal.returns-clause-told
returns-clause-told c = keeps_told_from
