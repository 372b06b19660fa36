use Rattle.presence_journal_known.proofs.ReachLemmas.{leads_more, leads_all, dot_counts}
use Rattle.presence_journal_known.proofs.reaching.reach_by_dots.Goals as goal

pub loop-dot-preserved : goal.loop-dot-preserved
loop-dot-preserved c =
    let l = c.loop-dot in
    leads_more (dot_counts c.args.replica.now) c.args.dots.now l.dot-index c.args.from l.reach c.reach_by_dot-reach.result c.dot-item.result
    c.loop-dot-test.true c.dot-item.is c.reach_by_dot-reach.ensures l.invariant

pub returns : goal.returns
returns c =
    let l = c.loop-dot in
    leads_all (dot_counts c.args.replica.now) c.args.dots.now l.dot-index c.args.from l.reach c.loop-dot-test.false l.invariant
