use Rattle.std.proofs.Common.{drop}
use Rattle.tracker_feeds.proofs.BegunLemmas.{IsCatching}
use Rattle.tracker_feeds.proofs.feeds.Feeds.start.Given as goal

abbrev pub invariant-loop-number : goal.invariant-loop-number
invariant-loop-number l = IsCatching l.subscribers l.current (drop l.number-index l.current) l.feeds
