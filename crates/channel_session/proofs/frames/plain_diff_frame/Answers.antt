use Rattle.std.proofs.Common.{rules}
use Rattle.channel_session.proofs.frames.plain_diff_frame.Goals as goal

pub returns : goal.returns
returns c = search rules
