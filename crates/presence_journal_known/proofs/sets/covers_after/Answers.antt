use Rattle.std.proofs.Common.{rules}
use Rattle.presence_journal_known.proofs.sets.covers_after.Goals as goal

pub returns-then-is_known_after : goal.returns-then-is_known_after
returns-then-is_known_after c = search rules

pub returns-else-is_known_after : goal.returns-else-is_known_after
returns-else-is_known_after c = search rules
