use Rattle.std.proofs.Common.{◌≡◌, ℕ, true, false, List, is_some}
use Rattle.std.specs.Map.{lookup}
use Rattle.std.specs.BTreeMap.{get, is_at}
use Rattle.presence_base.specs.Order.{text_cmp}
use Rattle.tracker_feeds.specs.Rings.{seen_at, RoomAt}
use Rattle.tracker_feeds.proofs.rings.reserve_all.Given as goal

abbrev pub invariant-loop-topic : goal.invariant-loop-topic
invariant-loop-topic l = record {
  same : (t : List ℕ) → seen_at l.rings t ≡ seen_at l.fn.rings t;
  room : (t : List ℕ) → is_some (get text_cmp l.made t) ≡ true → is_some (lookup (is_at (text_cmp t)) l.topic-iterator) ≡ false → RoomAt (get text_cmp l.rings t);
}
