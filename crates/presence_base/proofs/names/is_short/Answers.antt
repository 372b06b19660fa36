use Rattle.std.proofs.Common.{rules}
use Rattle.presence_base.proofs.names.is_short.Goals as goal

pub returns-then-not-is_empty : goal.returns-then-not-is_empty
returns-then-not-is_empty c = search rules
