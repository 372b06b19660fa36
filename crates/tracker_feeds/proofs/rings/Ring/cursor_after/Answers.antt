use Rattle.std.proofs.Common.{refl, arith}
use Rattle.tracker_feeds.specs.Rings.{seen}
use Rattle.tracker_feeds.proofs.CursorLemmas.{left_some, left_none}
use Rattle.tracker_feeds.proofs.rings.Ring.cursor_after.Goals as goal

pub returns-in-Some-clause-left : goal.returns-in-Some-clause-left
returns-in-Some-clause-left c = left_some (seen c.args.self.now) c.args.next c.ahead_of.result c.in-Some.ahead c.args.max _ c.requires.held c.ahead_of.ensures c.in-Some.is (omega arith)

pub returns-in-None-clause-left : goal.returns-in-None-clause-left
returns-in-None-clause-left c = left_none (seen c.args.self.now) c.args.next c.ahead_of.result c.args.max _ c.requires.held c.ahead_of.ensures c.in-None.is refl
