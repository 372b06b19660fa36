use Rattle.std.proofs.Common.{◌≡◌, ◌++◌, map, take, drop}
use Rattle.serve_rations.specs.Rows.{resized_row}
use Rattle.serve_rations.proofs.ration.Ration.resize.Given as goal

abbrev pub invariant-loop-row : goal.invariant-loop-row
invariant-loop-row l = take l.row-index l.row-items ++ map (resized_row l.topic l.key l.bytes) (drop l.row-index l.row-items)
    ≡ map (resized_row l.topic l.key l.bytes) l.initial.row-items
