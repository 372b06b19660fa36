use Rattle.std.proofs.Common.{◌≡◌, Some, drop}
use Rattle.serve_rations.specs.Rows.{others_fit}
use Rattle.serve_rations.proofs.ration.Ration.others_fit.Given as goal

abbrev pub invariant-loop-row : goal.invariant-loop-row
invariant-loop-row l =
    others_fit l.topic l.key (Some l.bytes) l.self.rows.items ≡ others_fit l.topic l.key (Some l.left) (drop l.row-index l.row-items)
