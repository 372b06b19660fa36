use Rattle.std.proofs.Common.{rules}
use Rattle.channel_session.proofs.events.shouted.Goals as goal

pub returns-in-Ok : goal.returns-in-Ok
returns-in-Ok c = search rules
