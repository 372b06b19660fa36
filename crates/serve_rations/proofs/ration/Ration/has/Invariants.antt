use Rattle.std.proofs.Common.{◌≡◌, drop}
use Rattle.serve_rations.specs.Rows.{has_row}
use Rattle.serve_rations.proofs.ration.Ration.has.Given as goal

abbrev pub invariant-loop-row : goal.invariant-loop-row
invariant-loop-row l = has_row l.topic l.key l.self.rows.items ≡ has_row l.topic l.key (drop l.row-index l.row-items)
