use Rattle.std.proofs.Common.{rules}
use Rattle.replica_status.proofs.standing.Standing.heard_at.Goals as goal

pub returns-in-Gone : goal.returns-in-Gone
returns-in-Gone c = search rules
