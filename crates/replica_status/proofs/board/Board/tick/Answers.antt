use Rattle.std.proofs.Common.{rules}
use Rattle.replica_status.proofs.board.Board.tick.Goals as goal

pub returns-clause-ok : goal.returns-clause-ok
returns-clause-ok c = search rules
