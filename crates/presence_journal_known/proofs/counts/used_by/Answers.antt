use Rattle.std.proofs.Common.{rules}
use Rattle.presence_journal_known.proofs.counts.used_by.Goals as goal

pub returns-else-is_empty : goal.returns-else-is_empty
returns-else-is_empty c = search rules
