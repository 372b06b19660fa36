use Rattle.std.proofs.Common.{◌≡◌, List, length}
use Rattle.json.specs.Json.{Items}
use Rattle.json.specs.Token.{Token}
use Rattle.json_parts.specs.Places.{items_data, AtItems}
use Rattle.link_lines.specs.Telling.{extra_in, each_in}
use Rattle.link_lines.proofs.Each.{before}
use Rattle.link_lines.proofs.telling.extras_in.Given as goal

abbrev pub invariant-loop-dots : goal.invariant-loop-dots
invariant-loop-dots l =
    (all : Items) (rest : List Token) → AtItems l.initial.reader all rest → (left : Items) × AtItems l.reader left rest
    × (before l.dots.items (each_in extra_in (items_data left)) ≡ each_in extra_in (items_data all))

abbrev pub decreases-loop-dots : goal.decreases-loop-dots
decreases-loop-dots l = length l.reader
