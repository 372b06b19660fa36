use Rattle.std.proofs.Common.{sym, ap}
use Rattle.presence_journal.specs.Queue.{is_waiting}
use Rattle.tracker_feeds.specs.Rings.{seen}
use Rattle.tracker_feeds.proofs.CursorLemmas.{awaited_some, behind_none}
use Rattle.tracker_feeds.proofs.rings.Ring.is_awaited.Goals as goal

pub returns-in-Some : goal.returns-in-Some
returns-in-Some c = awaited_some (seen c.args.self.now) c.args.next c.ahead_of.result c.in-Some.ahead c.ahead_of.ensures c.in-Some.is

pub returns-in-None : goal.returns-in-None
returns-in-None c = ap is_waiting (sym (behind_none (seen c.args.self.now) c.args.next c.ahead_of.result c.ahead_of.ensures c.in-None.is))
