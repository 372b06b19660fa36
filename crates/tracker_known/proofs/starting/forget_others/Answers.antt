use Rattle.std.proofs.Common.{Bool, ◌∙◌, refl}
use Rattle.std.proofs.lemmas.List.Elements.{recursion_from_All}
use Rattle.replica_status.specs.declared.standing.Standing.{Standing}
use Rattle.replica_status.specs.Table.{status_of}
use Rattle.presence_journal.specs.History.{is_gone}
use Rattle.presence_journal_lists.specs.Standings.{standing_at}
use Rattle.tracker_known.proofs.StandingLemmas.{any_of, any_standing, none_listed}
use Rattle.tracker_known.proofs.FadingLemmas.{still_all, still_none, still_next}
use Rattle.tracker_known.proofs.starting.forget_others.Goals as goal

pub loop-replica-init : goal.loop-replica-init
loop-replica-init c =
    let m = c.args.others.now in
    let p : Standing → Bool = λ x. is_gone (status_of x) in
    let es = c.into_iter-replica-iterator.result in
    still_all c.args.set.now (λ r. p (standing_at m r)) (any_of p es)
    (λ r. any_standing m p es r refl (c.into_iter-replica-iterator.ensures.into_iter_gives ∙ c.iter-replica-items.ensures.rest) (recursion_from_All _ _ c.iter-replica-items.ensures.found))

pub loop-replica-preserved : goal.loop-replica-preserved
loop-replica-preserved c =
    let l = c.loop-replica in
    let m = c.args.others.now in
    let p : Standing → Bool = λ x. is_gone (status_of x) in
    still_next c.args.set.now l.set c.forget_if_gone.new.set (λ r. p (standing_at m r)) p l.replica-iterator c.next.new.self c.in-Some.replica.now c.in-Some.standing.now c.in-Some.ensures.steps c.forget_if_gone.ensures l.invariant

pub returns : goal.returns
returns c =
    let l = c.loop-replica in
    let m = c.args.others.now in
    let p : Standing → Bool = λ x. is_gone (status_of x) in
    still_none c.args.set.now l.set (λ r. p (standing_at m r)) (any_of p l.replica-iterator) (none_listed p l.replica-iterator c.in-None.ensures.steps.0) l.invariant
