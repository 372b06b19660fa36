use Rattle.std.proofs.Common.{◌≡◌, ◌+◌, ◌*◌, ◌≤◌, List, length}
use Rattle.json.specs.Json as json
use Rattle.json.specs.Token.{Token}
use Rattle.serde_json.specs.Data.{Members, no_members, items_depth}
use Rattle.serde_json.specs.View.{items_view}
use Rattle.json_parts.specs.Places.{items_data, members_data, AtItems, AtMembers}
use Rattle.json_parts.specs.Small.{HoldsAll}
use Rattle.json_parts.proofs.Sizes.{total}
use Rattle.json_parts.proofs.Walks.{items_before}
use Rattle.json_parts.proofs.small.+small.Given as goal

abbrev pub decreases-small_value : goal.decreases-small_value
decreases-small_value l = 2 * l.limit

abbrev pub decreases-small_items : goal.decreases-small_items
decreases-small_items l = 2 * l.limit + 1

abbrev pub decreases-small_members : goal.decreases-small_members
decreases-small_members l = 2 * l.limit + 1

abbrev pub invariant-small_items-loop-alloc : goal.invariant-small_items-loop-alloc
invariant-small_items-loop-alloc l =
    ((all : json.Items) (rest : List Token) → AtItems l.initial.reader all rest → (left : json.Items) × AtItems l.reader left rest
    × (items_before l.items.items (items_data left) ≡ items_data all) × (16384 ≤ l.left + total l.items.items)
    × (items_depth (items_view l.items.items) ≤ l.limit))
    × (length l.reader ≤ length l.initial.reader) × (l.left ≤ 16384)

abbrev pub decreases-small_items-loop-alloc : goal.decreases-small_items-loop-alloc
decreases-small_items-loop-alloc l = length l.reader

abbrev pub invariant-small_members-loop-held : goal.invariant-small_members-loop-held
invariant-small_members-loop-held l =
    ((all : json.Members) (rest : List Token) → AtMembers l.initial.reader all rest → (found : Members) × (left : json.Members) × AtMembers l.reader left rest
    × (members_data left found ≡ members_data all no_members) × HoldsAll l.limit l.held.entries found)
    × (length l.reader ≤ length l.initial.reader)

abbrev pub decreases-small_members-loop-held : goal.decreases-small_members-loop-held
decreases-small_members-loop-held l = length l.reader
