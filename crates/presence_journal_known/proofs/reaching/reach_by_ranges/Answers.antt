use Rattle.presence_journal_known.proofs.ReachLemmas.{leads_more, leads_all, range_counts}
use Rattle.presence_journal_known.proofs.reaching.reach_by_ranges.Goals as goal

pub loop-range-preserved : goal.loop-range-preserved
loop-range-preserved c =
    let l = c.loop-range in
    leads_more (range_counts c.args.replica.now) c.args.ranges.now l.range-index c.args.from l.reach c.reach_by_range-reach.result c.range-item.result
    c.loop-range-test.true c.range-item.is c.reach_by_range-reach.ensures l.invariant

pub returns : goal.returns
returns c =
    let l = c.loop-range in
    leads_all (range_counts c.args.replica.now) c.args.ranges.now l.range-index c.args.from l.reach c.loop-range-test.false l.invariant
