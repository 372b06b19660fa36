use Rattle.std.proofs.Common.{◌≤◌, List, length}
use Rattle.json.specs.Json.{Items}
use Rattle.json.specs.Token.{Token}
use Rattle.json_parts.specs.Places.{AtItems}
use Rattle.json_parts.proofs.brief.skip_items.Given as goal

abbrev pub invariant-loop-reader : goal.invariant-loop-reader
invariant-loop-reader l =
    ((js : Items) (rest : List Token) → AtItems l.initial.reader js rest → (left : Items) × AtItems l.reader left rest)
    × (length l.reader ≤ length l.initial.reader)

abbrev pub decreases-loop-reader : goal.decreases-loop-reader
decreases-loop-reader l = length l.reader
