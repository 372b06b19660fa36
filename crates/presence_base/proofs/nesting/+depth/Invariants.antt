use Rattle.std.proofs.Common.{◌≡◌, nat_le, drop}
use Rattle.serde_json.specs.Data.{items_depth, members_depth}
use Rattle.serde_json.specs.View.{items_view, members_view}
use Rattle.presence_base.proofs.nesting.+depth.Given as goal

-- what is left decides
abbrev pub invariant-items_within_depth-loop-item : goal.invariant-items_within_depth-loop-item
invariant-items_within_depth-loop-item l =
    nat_le (items_depth (items_view l.item-items)) l.limit ≡ nat_le (items_depth (items_view (drop l.item-index l.item-items))) l.limit

abbrev pub invariant-members_within_depth-loop-key : goal.invariant-members_within_depth-loop-key
invariant-members_within_depth-loop-key l =
    nat_le (members_depth (members_view l.members.entries)) l.limit ≡ nat_le (members_depth (members_view l._key-iterator)) l.limit
