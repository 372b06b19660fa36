use Rattle.std.proofs.Common.{◌∙◌, sym, subst}
use Rattle.presence_journal.specs.History.{Begin, onto}
use Rattle.presence_journal_known.proofs.LeftLemmas.{LeavesRest, rest_one, rest_done}
use Rattle.presence_journal_known.proofs.leaving.leave_out_others.Goals as goal

pub loop-replica-init : goal.loop-replica-init
loop-replica-init c =
    let h = onto (Begin c.args.start.now) c.args.entries.now in
    subst (λ es. LeavesRest h c.args.others.now.entries es c.args.set.now c.args.set.now) (sym (c.into_iter-replica-iterator.ensures.into_iter_gives ∙ c.iter-replica-items.ensures.rest)) (λ later o. o)

pub loop-replica-preserved : goal.loop-replica-preserved
loop-replica-preserved c =
    let l = c.loop-replica in
    rest_one (onto (Begin c.args.start.now) c.args.entries.now) c.args.others.now.entries l.replica-iterator c.next.new.self (c.in-Some.replica.now, c.in-Some._standing.now) c.args.set.now l.set c.forget_gone.new.set
    c.in-Some.ensures.steps c.forget_gone.ensures l.invariant

pub returns : goal.returns
returns c =
    let l = c.loop-replica in
    rest_done (onto (Begin c.args.start.now) c.args.entries.now) c.args.others.now.entries l.replica-iterator c.args.set.now l.set c.in-None.ensures.steps.0 l.invariant
