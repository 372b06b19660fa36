use Rattle.std.proofs.Common.{◌+◌, drop}
use Rattle.presence_journal.specs.History.{Begin, onto}
use Rattle.presence_journal.proofs.Walking.{drop_next}
use Rattle.presence_journal_known.proofs.LeftLemmas.{one_named}
use Rattle.presence_journal_known.proofs.leaving.leave_out_named.Goals as goal

pub loop-entry-preserved : goal.loop-entry-preserved
loop-entry-preserved c =
    let l = c.loop-entry in
    let es = c.args.entries.now in
    let e = c.entry-item.result in
    one_named (onto (Begin c.args.start.now) es) l.own c.own_after-own.result (drop l.entry-index es) (drop (l.entry-index + 1) es) e l.set c.forget_named.new.set (drop_next es l.entry-index e c.loop-entry-test.true c.entry-item.is) c.own_after-own.ensures c.forget_named.ensures l.invariant
