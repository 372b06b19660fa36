use Rattle.std.proofs.Common.{◌≡◌, take, drop}
use Rattle.tracker_feeds.specs.Rings.{values}
use Rattle.tracker_feeds.proofs.rings.share_items.Given as goal

abbrev pub invariant-loop-i : goal.invariant-loop-i
invariant-loop-i l = values l.shared.items ≡ take l.i (drop l.from (values l.items.items))
