use Rattle.std.proofs.Common.{◌≡◌, ℕ, true, List, length, is_some}
use Rattle.std.specs.BTreeMap.{get}
use Rattle.presence_base.specs.Order.{text_cmp}
use Rattle.tracker_feeds.specs.Fed.{items_for}
use Rattle.tracker_feeds.specs.Rings.{seen_at, pushed, RoomAt, IsBelow}
use Rattle.tracker_feeds.proofs.rings.push_all.Given as goal

abbrev pub invariant-loop-topic : goal.invariant-loop-topic
invariant-loop-topic l = record {
  rings : (t : List ℕ) → pushed (seen_at l.rings t) (items_for l.made t) ≡ pushed (seen_at l.fn.rings t) (items_for l.fn.made t);
  room : (t : List ℕ) → is_some (get text_cmp l.made t) ≡ true → RoomAt (get text_cmp l.rings t);
  below : (t : List ℕ) → is_some (get text_cmp l.made t) ≡ true → IsBelow (seen_at l.rings t);
}

abbrev pub decreases-loop-topic : goal.decreases-loop-topic
decreases-loop-topic l = length l.made.entries
