use Rattle.std.proofs.Common.{◌≡◌, take}
use Rattle.tracker_feeds.specs.Rings.{values}
use Rattle.tracker_index.proofs.taking.copy_items.Given as goal

abbrev pub invariant-loop-item : goal.invariant-loop-item
invariant-loop-item l = l.copies.items ≡ values (take l.item-index l.items)
