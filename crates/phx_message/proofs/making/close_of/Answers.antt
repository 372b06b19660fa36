use Rattle.std.proofs.Common.{rules}
use Rattle.phx_message.proofs.making.close_of.Goals as goal

pub returns : goal.returns
returns c = search rules
