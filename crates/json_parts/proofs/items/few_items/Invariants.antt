use Rattle.std.proofs.Common.{◌≡◌, ◌≤◌, ◌-◌, List, length}
use Rattle.json.specs.Json.{Items}
use Rattle.json.specs.Token.{Token}
use Rattle.json_parts.specs.Items.{after}
use Rattle.json_parts.specs.Outline.{few}
use Rattle.json_parts.specs.Places.{items_data, AtItems}
use Rattle.json_parts.proofs.Walks.{items_before}
use Rattle.json_parts.proofs.items.few_items.Given as goal

abbrev pub invariant-loop-alloc : goal.invariant-loop-alloc
invariant-loop-alloc l =
    ((all : Items) (rest : List Token) → AtItems l.initial.reader all rest → (left : Items) × AtItems l.reader left rest
    × (after (length l.items.items) all ≡ left)
    × (items_before l.items.items (few (l.most - length l.items.items) (items_data left)) ≡ few l.most (items_data all)))
    × (length l.reader ≤ length l.initial.reader) × (length l.items.items ≤ l.most)

abbrev pub decreases-loop-alloc : goal.decreases-loop-alloc
decreases-loop-alloc l = l.most - length l.items.items
