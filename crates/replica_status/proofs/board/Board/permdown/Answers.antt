use Rattle.std.proofs.Common.{rules}
use Rattle.replica_status.proofs.board.Board.permdown.Goals as goal

pub returns-then-is_eq-clause-ok : goal.returns-then-is_eq-clause-ok
returns-then-is_eq-clause-ok c = search rules

pub returns-then-is_eq-clause-cause : goal.returns-then-is_eq-clause-cause
returns-then-is_eq-clause-cause c = search rules
