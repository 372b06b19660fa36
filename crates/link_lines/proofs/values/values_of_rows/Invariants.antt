use Rattle.std.proofs.Common.{◌≡◌, ◌++◌, map, drop}
use Rattle.serde_json.specs.View.{view}
use Rattle.link_lines.specs.Limits.{are_metas}
use Rattle.link_lines.specs.Values.{row_value}
use Rattle.link_lines.proofs.values.values_of_rows.Given as goal

abbrev pub invariant-loop-row : goal.invariant-loop-row
invariant-loop-row l = record {
  values : map view l.values.items ++ map row_value (drop l.row-index l.rows) ≡ map row_value l.rows;
  metas : are_metas (drop l.row-index l.rows) ≡ are_metas l.rows;
}
