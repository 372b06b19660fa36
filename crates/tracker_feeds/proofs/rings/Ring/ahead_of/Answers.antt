use Rattle.tracker_feeds.specs.Rings.{seen}
use Rattle.tracker_feeds.proofs.CursorLemmas.{ahead_some, ahead_none}
use Rattle.tracker_feeds.proofs.rings.Ring.ahead_of.Goals as goal

pub returns-in-Some : goal.returns-in-Some
returns-in-Some c = ahead_some (seen c.args.self.now) c.in-Some.next c.saturating_sub.result c.args.next c.unless_behind.result c.requires.held c.requires.reached c.in-Some.is c.saturating_sub.ensures c.unless_behind.ensures

pub returns-in-None : goal.returns-in-None
returns-in-None c = ahead_none (seen c.args.self.now) c.args.next c.in-None.is
