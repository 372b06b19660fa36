use Rattle.std.proofs.lemmas.Result.{on_ok_weaker}
use Rattle.tracker_index.proofs.FeedLemmas.{follows_delivery}
use Rattle.tracker_index.proofs.parts.deliver_items.Goals as goal

pub returns-clause-ok : goal.returns-clause-ok
returns-clause-ok c =
    on_ok_weaker c.deliver.result
    (λ is. follows_delivery c.args.entry.now c.args.turn.now c.in_ok-made.made c.args.feeds.now c.deliver.new.self c.requires.other c.in_ok-made.ensures is)
    c.deliver.ensures.ok
