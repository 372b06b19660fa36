use Rattle.std.proofs.Common.{rules}
use Rattle.presence_base.proofs.meta.is_plain_object.Goals as goal

pub returns-then-is_none : goal.returns-then-is_none
returns-then-is_none c = search rules
