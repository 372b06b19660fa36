use Rattle.std.proofs.Common.{rules}
use Rattle.replica_status.proofs.standing.is_over.Goals as goal

pub returns : goal.returns
returns c = search rules
