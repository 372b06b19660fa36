use Rattle.std.proofs.Common.{◌≡◌, ◌++◌}
use Rattle.replica_status.specs.Boards.{changes_in}
use Rattle.replica_status.proofs.board.changes_in.Given as goal

abbrev pub invariant-loop-listed : goal.invariant-loop-listed
invariant-loop-listed l = changes_in l.fn.standings.entries l.time ≡ l.changes.items ++ changes_in l.listed-iterator l.time
