use Rattle.presence_journal_known.proofs.ReachLemmas.{reaches_start, reaches_more}
use Rattle.presence_journal_known.proofs.reaching.reach_after.Goals as goal

pub loop-place-init : goal.loop-place-init
loop-place-init c =
    reaches_start c.args.start.now c.args.entries.now c.args.replica.now c.args.from c.reach_by_told-reach.result c.requires c.reach_by_told-reach.ensures

pub loop-place-preserved : goal.loop-place-preserved
loop-place-preserved c =
    let l = c.loop-place in
    reaches_more c.args.start.now c.args.entries.now l.place c.index-entries-place.result c.args.replica.now l.own c.own_after-own.result c.args.from
    l.reach c.reach_by_count-reach.result c.reach_by_step-reach.result l.used c.used_after-used.result
    c.requires c.loop-place-test.true c.index-entries-place.is c.own_after-own.ensures c.used_after-used.ensures c.reach_by_count-reach.ensures c.reach_by_step-reach.ensures l.invariant
