use Rattle.std.proofs.Common.{ap}
use Rattle.presence_journal.specs.History.{Begin, onto}
use Rattle.presence_journal.specs.Walk.{is_reborn}
use Rattle.presence_journal_known.proofs.OwnLemmas.{reborn_step}
use Rattle.presence_journal_known.proofs.RebornLemmas.{again_none, pair_at, pair_free, pair_dot, pair_row, again_next, again_holds}
use Rattle.presence_journal_known.proofs.walked.take_reborn.Goals as goal

pub loop-pair-init : goal.loop-pair-init
loop-pair-init c = again_none (onto (Begin c.args.start.now) c.args.entries.now) c.args.entry.now c.args.pairs.now c.args.set.now c.requires.legal c.requires.outcome (reborn_step (onto (Begin c.args.start.now) c.args.entries.now) c.args.entry.now c.requires.legal (ap is_reborn c.requires.outcome)) c.requires.holds

pub add_again-requires-clause-new : goal.add_again-requires-clause-new
add_again-requires-clause-new c =
    let l = c.loop-pair in
    let h = onto (Begin c.args.start.now) c.args.entries.now in
    pair_free h c.args.entry.now c.args.pairs.now l.pair-index l.set c.pair-item.result (pair_at h c.args.entry.now c.args.pairs.now l.pair-index l.set c.pair-item.result c.loop-pair-test.true c.pair-item.is l.invariant)

pub add_again-requires-clause-dot : goal.add_again-requires-clause-dot
add_again-requires-clause-dot c =
    let l = c.loop-pair in
    let h = onto (Begin c.args.start.now) c.args.entries.now in
    pair_dot h c.args.entry.now c.args.pairs.now l.pair-index l.set c.pair-item.result c.requires.legal (pair_at h c.args.entry.now c.args.pairs.now l.pair-index l.set c.pair-item.result c.loop-pair-test.true c.pair-item.is l.invariant)

pub add_again-requires-clause-row : goal.add_again-requires-clause-row
add_again-requires-clause-row c =
    let l = c.loop-pair in
    let h = onto (Begin c.args.start.now) c.args.entries.now in
    pair_row h c.args.entry.now c.args.pairs.now l.pair-index l.set c.pair-item.result c.requires.legal (pair_at h c.args.entry.now c.args.pairs.now l.pair-index l.set c.pair-item.result c.loop-pair-test.true c.pair-item.is l.invariant)

pub loop-pair-preserved : goal.loop-pair-preserved
loop-pair-preserved c =
    let l = c.loop-pair in
    let h = onto (Begin c.args.start.now) c.args.entries.now in
    again_next h c.args.entry.now c.args.pairs.now l.pair-index l.set c.add_again.new.set c.pair-item.result c.in_ok-add_again.ensures (pair_at h c.args.entry.now c.args.pairs.now l.pair-index l.set c.pair-item.result c.loop-pair-test.true c.pair-item.is l.invariant)

pub returns : goal.returns
returns c =
    let l = c.loop-pair in
    again_holds (onto (Begin c.args.start.now) c.args.entries.now) c.args.entry.now c.args.pairs.now l.pair-index l.set c.requires.legal c.requires.outcome c.loop-pair-test.false l.invariant
