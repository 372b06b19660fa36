use Rattle.std.proofs.Common.{◌∙◌, refl}
use Rattle.std.proofs.lemmas.List.Elements.{recursion_from_All}
use Rattle.replica_status.specs.Boards.{standing_in}
use Rattle.tracker_known.specs.Steps.{fades}
use Rattle.tracker_known.proofs.StandingLemmas.{any_of, any_other, none_listed}
use Rattle.tracker_known.proofs.FadingLemmas.{still_all, still_none, still_next}
use Rattle.tracker_known.proofs.fading.forget_faded.Goals as goal

pub loop-replica-init : goal.loop-replica-init
loop-replica-init c =
    let xs = c.args.standings.now in
    let p = fades c.args.time in
    let es = c.into_iter-replica-iterator.result in
    still_all c.args.set.now (λ r. p (standing_in xs r)) (any_of p es)
    (λ r. any_other xs c.others-others.result.now p es r refl refl c.others-others.ensures (c.into_iter-replica-iterator.ensures.into_iter_gives ∙ c.iter-replica-items.ensures.rest) (recursion_from_All _ _ c.iter-replica-items.ensures.found))

pub loop-replica-preserved : goal.loop-replica-preserved
loop-replica-preserved c =
    let l = c.loop-replica in
    let xs = c.args.standings.now in
    let p = fades c.args.time in
    still_next c.args.set.now l.set c.forget_if_faded.new.set (λ r. p (standing_in xs r)) p l.replica-iterator c.next.new.self c.in-Some.replica.now c.in-Some.standing.now c.in-Some.ensures.steps c.forget_if_faded.ensures l.invariant

pub returns : goal.returns
returns c =
    let l = c.loop-replica in
    let xs = c.args.standings.now in
    let p = fades c.args.time in
    still_none c.args.set.now l.set (λ r. p (standing_in xs r)) (any_of p l.replica-iterator) (none_listed p l.replica-iterator c.in-None.ensures.steps.0) l.invariant
