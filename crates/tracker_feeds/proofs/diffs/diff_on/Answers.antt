use Rattle.std.proofs.Common.{◌∙◌}
use Rattle.tracker_feeds.proofs.DiffLemmas.{diff_placed}
use Rattle.tracker_feeds.proofs.diffs.diff_on.Goals as goal

pub returns : goal.returns
returns c = λ h e is.
    (λ i. record { joins = c.new.ensures i; leaves = c.new-2.ensures i })
    ∙ diff_placed c.args.changes.now c.args.topic.now c.in_ok-joins.joins.items c.in_ok-leaves.leaves.items c.in_ok-joins.ensures c.in_ok-leaves.ensures h e is
