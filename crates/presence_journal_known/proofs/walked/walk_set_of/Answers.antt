use Rattle.std.proofs.Common.{◌∙◌, take}
use Rattle.presence_journal.specs.History.{Begin, onto}
use Rattle.presence_journal.proofs.Diffs.{legal_at}
use Rattle.presence_journal_known.proofs.FrontLemmas.{walked_none, walked_more, next_own}
use Rattle.presence_journal_known.proofs.walked.walk_set_of.Goals as goal

pub loop-place-init : goal.loop-place-init
loop-place-init c = walked_none c.args.start.now c.args.entries.now c.in_ok-set.set c.requires c.in_ok-set.ensures

pub take_entry-requires-clause-legal : goal.take_entry-requires-clause-legal
take_entry-requires-clause-legal c = legal_at (Begin c.args.start.now) c.args.entries.now c.loop-place.place c.index-entries-place.result c.loop-place-test.true c.index-entries-place.is c.requires

pub take_entry-requires-clause-next : goal.take_entry-requires-clause-next
take_entry-requires-clause-next c = c.own_dot-next.ensures ∙ next_own (onto (Begin c.args.start.now) (take c.loop-place.place c.args.entries.now)) c.loop-place.own c.loop-place.used c.loop-place.invariant.mine c.loop-place.invariant.counted.0

pub loop-place-preserved : goal.loop-place-preserved
loop-place-preserved c =
    let l = c.loop-place in
    walked_more c.args.start.now c.args.entries.now l.place c.index-entries-place.result c.take_entry.new.set l.own c.own_after-own.result l.used c.used_after-used.result c.requires c.loop-place-test.true c.index-entries-place.is l.invariant.mine l.invariant.counted c.own_after-own.ensures c.used_after-used.ensures c.in_ok-take_entry.ensures
