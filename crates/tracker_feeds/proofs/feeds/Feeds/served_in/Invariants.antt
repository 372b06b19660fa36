use Rattle.std.proofs.Common.{◌≡◌, ◌++◌, drop}
use Rattle.tracker_feeds.specs.Listed.{served_in}
use Rattle.tracker_feeds.proofs.feeds.Feeds.served_in.Given as goal

abbrev pub invariant-loop-subscriber : goal.invariant-loop-subscriber
invariant-loop-subscriber l = l.numbers.items ++ served_in l.self (drop l.subscriber-index l.subscribers) ≡ served_in l.self l.subscribers
