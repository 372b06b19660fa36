use Rattle.std.proofs.Common.{rules}
use Rattle.presence_base.proofs.laws.order_of_replicas.Goals as goal

pub returns : goal.returns
returns c = search rules
