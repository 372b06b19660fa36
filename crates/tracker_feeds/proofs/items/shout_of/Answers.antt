use Rattle.std.proofs.Common.{sym, ◌∙◌}
use Rattle.tracker_feeds.proofs.ItemLemmas.{no_items, shout_told, shout_to_nobody}
use Rattle.tracker_feeds.proofs.items.shout_of.Goals as goal

pub returns-then-not-is_followed : goal.returns-then-not-is_followed
returns-then-not-is_followed c =
    shout_to_nobody c.args.feeds.now c.args.topic.now c.args.payload.now c.new-made.result (no_items c.new-made.result c.new-made.ensures.empty)
    (sym c.is_followed.ensures ∙ c.if-not-is_followed.true)

pub returns : goal.returns
returns c =
    shout_told c.args.feeds.now c.args.topic.now c.args.payload.now c.new-shout.result c.new-made.result c.put_item.new.made (c.new-shout.ensures ∙ c.in_ok-clone.ensures.cases)
    (no_items c.new-made.result c.new-made.ensures.empty) c.in_ok-put_item.ensures
