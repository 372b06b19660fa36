use Rattle.std.proofs.Common.{rules}
use Rattle.replica_status.proofs.board.Board.heard.Goals as goal

pub returns-in_err-put-clause-err : goal.returns-in_err-put-clause-err
returns-in_err-put-clause-err c = search rules
