use Rattle.presence_journal.proofs.Merges.{removed_is_known, known_is_live_or_removed}
use Rattle.presence_journal_laws.proofs.laws.known_is_live_or_removed.Goals as goal

pub returns-clause-of_removed : goal.returns-clause-of_removed
returns-clause-of_removed c = removed_is_known

pub returns-clause-live : goal.returns-clause-live
returns-clause-live c = known_is_live_or_removed
