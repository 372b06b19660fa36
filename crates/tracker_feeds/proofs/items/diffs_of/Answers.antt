use Rattle.tracker_feeds.proofs.AddLemmas.{all_added}
use Rattle.tracker_feeds.proofs.ItemLemmas.{no_items}
use Rattle.tracker_feeds.proofs.items.diffs_of.Goals as goal

pub returns : goal.returns
returns c =
    all_added c.args.feeds.now (record { joins = c.in_ok-of_rows.field-0; leaves = c.in_ok-of_rows-2.field-0 }) c.args.turn.now
    c.as_slice-joins.result.now c.as_slice-leaves.result.now c.new-made.result c.add_diffs.new.made c.add_diffs-2.new.made
    c.as_slice-joins.ensures.value c.as_slice-leaves.ensures.value (no_items c.new-made.result c.new-made.ensures.empty)
    c.in_ok-of_rows.ensures c.in_ok-of_rows-2.ensures c.in_ok-add_diffs.ensures c.in_ok-add_diffs-2.ensures
