use Rattle.std.proofs.Common.{drop}
use Rattle.tracker_feeds.proofs.BegunLemmas.{IsBeginning}
use Rattle.tracker_feeds.proofs.feeds.Feeds.newcomers.Given as goal

abbrev pub invariant-loop-subscriber : goal.invariant-loop-subscriber
invariant-loop-subscriber l = IsBeginning l.subscribers (drop l.subscriber-index l.subscribers) l.feeds
