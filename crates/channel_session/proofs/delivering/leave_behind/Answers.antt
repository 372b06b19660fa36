use Rattle.std.proofs.Common.{rules}
use Rattle.channel_session.proofs.delivering.leave_behind.Goals as goal

pub returns-clause-after : goal.returns-clause-after
returns-clause-after c = search rules
