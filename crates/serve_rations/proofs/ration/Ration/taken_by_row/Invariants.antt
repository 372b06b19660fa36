use Rattle.std.proofs.Common.{◌≡◌, drop}
use Rattle.serve_rations.specs.Amounts.{nothing}
use Rattle.serve_rations.specs.Rows.{amount_with, is_row}
use Rattle.serve_rations.proofs.ration.Ration.taken_by_row.Given as goal

abbrev pub invariant-loop-row : goal.invariant-loop-row
invariant-loop-row l = amount_with (is_row l.topic l.key) nothing l.self.rows.items
    ≡ amount_with (is_row l.topic l.key) l.taken (drop l.row-index l.row-items)
