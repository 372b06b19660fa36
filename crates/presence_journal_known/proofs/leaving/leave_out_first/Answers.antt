use Rattle.std.proofs.Common.{◌∙◌, ap, sym, subst}
use Rattle.presence_journal.specs.History.{Begin, onto}
use Rattle.presence_journal_lists.specs.Standings.{first_list, gone_life}
use Rattle.presence_journal_known.proofs.LeftLemmas.{LeavesRest, rest_one, rest_done}
use Rattle.presence_journal_known.proofs.leaving.leave_out_first.Goals as goal

pub loop-name-init : goal.loop-name-init
loop-name-init c =
    let h = onto (Begin c.args.start.now) c.args.entries.now in
    let all = first_list c.args.first.now.entries in
    subst (λ es. LeavesRest h all (first_list es) c.args.set.now c.args.set.now) (sym (c.into_iter-name-iterator.ensures.into_iter_gives ∙ c.iter-name-items.ensures.rest)) (λ later o. o)

pub loop-name-preserved : goal.loop-name-preserved
loop-name-preserved c =
    let l = c.loop-name in
    rest_one (onto (Begin c.args.start.now) c.args.entries.now) (first_list c.args.first.now.entries) (first_list l.name-iterator) (first_list c.next.new.self) (gone_life c.in-Some.name.now c.in-Some.life.now) c.args.set.now l.set c.forget_gone.new.set
    (ap first_list c.in-Some.ensures.steps) c.forget_gone.ensures l.invariant

pub returns : goal.returns
returns c =
    let l = c.loop-name in
    rest_done (onto (Begin c.args.start.now) c.args.entries.now) (first_list c.args.first.now.entries) (first_list l.name-iterator) c.args.set.now l.set (ap first_list c.in-None.ensures.steps.0) l.invariant
