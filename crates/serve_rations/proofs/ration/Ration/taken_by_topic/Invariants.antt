use Rattle.std.proofs.Common.{◌≡◌, drop}
use Rattle.serve_rations.specs.Amounts.{nothing}
use Rattle.serve_rations.specs.Rows.{amount_with, is_of}
use Rattle.serve_rations.proofs.ration.Ration.taken_by_topic.Given as goal

abbrev pub invariant-loop-row : goal.invariant-loop-row
invariant-loop-row l = amount_with (is_of l.topic) nothing l.self.rows.items
    ≡ amount_with (is_of l.topic) l.taken (drop l.row-index l.row-items)
