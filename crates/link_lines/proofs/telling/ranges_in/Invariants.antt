use Rattle.std.proofs.Common.{◌≡◌, List, length}
use Rattle.json.specs.Json.{Items}
use Rattle.json.specs.Token.{Token}
use Rattle.json_parts.specs.Places.{items_data, AtItems}
use Rattle.link_lines.specs.Telling.{range_in, each_in}
use Rattle.link_lines.proofs.Each.{before}
use Rattle.link_lines.proofs.telling.ranges_in.Given as goal

abbrev pub invariant-loop-ranges : goal.invariant-loop-ranges
invariant-loop-ranges l =
    (all : Items) (rest : List Token) → AtItems l.initial.reader all rest → (left : Items) × AtItems l.reader left rest
    × (before l.ranges.items (each_in range_in (items_data left)) ≡ each_in range_in (items_data all))

abbrev pub decreases-loop-ranges : goal.decreases-loop-ranges
decreases-loop-ranges l = length l.reader
