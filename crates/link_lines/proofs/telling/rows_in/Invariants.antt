use Rattle.std.proofs.Common.{◌≡◌, List, length}
use Rattle.json.specs.Json.{Items}
use Rattle.json.specs.Token.{Token}
use Rattle.json_parts.specs.Places.{items_data, AtItems}
use Rattle.link_lines.specs.Rows.{kept_row_in}
use Rattle.link_lines.specs.Telling.{each_in}
use Rattle.link_lines.proofs.Each.{before}
use Rattle.link_lines.proofs.telling.rows_in.Given as goal

abbrev pub invariant-loop-rows : goal.invariant-loop-rows
invariant-loop-rows l =
    (all : Items) (rest : List Token) → AtItems l.initial.reader all rest → (left : Items) × AtItems l.reader left rest
    × (before l.rows.items (each_in kept_row_in (items_data left)) ≡ each_in kept_row_in (items_data all))

abbrev pub decreases-loop-rows : goal.decreases-loop-rows
decreases-loop-rows l = length l.reader
