use Rattle.presence_journal.proofs.Merges.{merge_is_known, merge_is_live}
use Rattle.presence_journal_laws.proofs.laws.merges_take_in.Goals as goal

pub returns-clause-known : goal.returns-clause-known
returns-clause-known c = merge_is_known

pub returns-clause-live : goal.returns-clause-live
returns-clause-live c = merge_is_live
