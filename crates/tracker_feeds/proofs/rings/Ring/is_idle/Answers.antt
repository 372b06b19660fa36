use Rattle.tracker_feeds.specs.Rings.{seen}
use Rattle.tracker_feeds.proofs.CursorLemmas.{idle_far}
use Rattle.tracker_feeds.proofs.rings.Ring.is_idle.Goals as goal

pub returns-else-ahead-eq0 : goal.returns-else-ahead-eq0
returns-else-ahead-eq0 c = idle_far (seen c.args.self.now) c.in-Some.next c.saturating_sub-ahead.result c.args.next c.requires c.in-Some.is c.saturating_sub-ahead.ensures c.if-ahead-eq0.false
