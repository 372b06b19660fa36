use Rattle.std.proofs.Common.{rules}
use Rattle.presence_base.proofs.names.NodeNameOrd.cmp.Goals as goal

pub returns : goal.returns
returns c = search rules
