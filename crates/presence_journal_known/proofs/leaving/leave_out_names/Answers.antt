use Rattle.std.proofs.Common.{ℕ, ◌∙◌, ap, sym, subst, List}
use Rattle.presence_journal.specs.History.{Begin, onto}
use Rattle.presence_journal_lists.specs.Standings.{gone_list, gone_lives}
use Rattle.presence_journal_known.proofs.LeftLemmas.{LeavesRest, rest_some, rest_done}
use Rattle.presence_journal_known.specs.LeftOut.{LeavesListed}
use Rattle.presence_journal_known.proofs.leaving.leave_out_names.Goals as goal

pub loop-name-init : goal.loop-name-init
loop-name-init c =
    let h = onto (Begin c.args.start.now) c.args.entries.now in
    let all = gone_list c.args.names.now.entries in
    subst (λ es. LeavesRest h all (gone_list es) c.args.set.now c.args.set.now) (sym (c.into_iter-name-iterator.ensures.into_iter_gives ∙ c.iter-name-items.ensures.rest)) (λ later o. o)

pub loop-name-preserved : goal.loop-name-preserved
loop-name-preserved c =
    let l = c.loop-name in
    let h = onto (Begin c.args.start.now) c.args.entries.now in
    let lives = c.in-Some.lives.now in
    rest_some h (gone_list c.args.names.now.entries) (gone_list l.name-iterator) (gone_lives c.in-Some.name.now lives) (gone_list c.next.new.self) c.args.set.now l.set c.leave_out_lives.new.set
    (ap gone_list c.in-Some.ensures.steps)
    (subst (λ (ns : List ℕ). LeavesListed h (gone_lives c.in-Some.name.now ns) l.set c.leave_out_lives.new.set) c.as_slice.ensures c.leave_out_lives.ensures) l.invariant

pub returns : goal.returns
returns c =
    let l = c.loop-name in
    rest_done (onto (Begin c.args.start.now) c.args.entries.now) (gone_list c.args.names.now.entries) (gone_list l.name-iterator) c.args.set.now l.set (ap gone_list c.in-None.ensures.steps.0) l.invariant
