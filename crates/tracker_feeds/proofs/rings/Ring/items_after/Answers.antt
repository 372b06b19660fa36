use Rattle.std.proofs.Common.{arith}
use Rattle.std.proofs.lemmas.Result.{IfOk-weaker}
use Rattle.tracker_feeds.specs.Rings.{seen, shared}
use Rattle.tracker_feeds.proofs.CursorLemmas.{ahead_low, items_some, items_none}
use Rattle.tracker_feeds.proofs.RingLemmas.{length_values}
use Rattle.tracker_feeds.proofs.rings.Ring.items_after.Goals as goal

pub share_last-requires : goal.share_last-requires
share_last-requires c =
    let low = ahead_low (seen c.args.self.now) c.args.next c.ahead_of.result c.in-Some.ahead c.ahead_of.ensures c.in-Some.is in
    omega (arith, low.0, length_values c.args.self.now.items.items)

pub returns-in-Some : goal.returns-in-Some
returns-in-Some c =
    IfOk-weaker c.share_last.result _ _
    (λ o e. items_some (seen c.args.self.now) c.args.next c.ahead_of.result c.in-Some.ahead c.args.max (shared o) c.ahead_of.ensures c.in-Some.is e)
    c.share_last.ensures

pub returns-in-None : goal.returns-in-None
returns-in-None c = items_none (seen c.args.self.now) c.args.next c.ahead_of.result c.args.max c.ahead_of.ensures c.in-None.is
