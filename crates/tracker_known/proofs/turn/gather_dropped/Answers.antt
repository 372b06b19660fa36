use Rattle.std.proofs.Common.{◌∙◌, ◌&&◌, ap, refl}
use Rattle.std.proofs.lemmas.List.Elements.{recursion_from_All}
use Rattle.presence_base.specs.Order.{same_replica}
use Rattle.replica_status.specs.Boards.{standing_in}
use Rattle.tracker_known.specs.Picks.{drops}
use Rattle.tracker_known.proofs.StandingLemmas.{any_of, any_other, none_listed}
use Rattle.tracker_known.proofs.GatherLemmas.{still_start, still_step, still_end}
use Rattle.tracker_known.proofs.turn.gather_dropped.Goals as goal

pub loop-replica-init : goal.loop-replica-init
loop-replica-init c =
    let xs = c.args.standings.now in
    let p = drops c.args.time in
    let es = c.into_iter-replica-iterator.result in
    still_start c.args.set.now.live (λ d. any_of p es d.replica) (λ d. p (standing_in xs d.replica)) c.args.rows.now
    (λ d. any_other xs c.others-others.result.now p es d.replica refl refl c.others-others.ensures (c.into_iter-replica-iterator.ensures.into_iter_gives ∙ c.iter-replica-items.ensures.rest) (recursion_from_All _ _ c.iter-replica-items.ensures.found))

pub loop-replica-preserved : goal.loop-replica-preserved
loop-replica-preserved c =
    let l = c.loop-replica in
    let xs = c.args.standings.now in
    let p = drops c.args.time in
    let r = c.in-Some.replica.now in
    let x = c.in-Some.standing.now in
    still_step c.args.set.now.live (λ d. any_of p l.replica-iterator d.replica) (λ d. same_replica d.replica r && p x) (λ d. any_of p c.next.new.self d.replica) (λ d. p (standing_in xs d.replica)) c.args.rows.now l.rows c.gather_if_dropped.new.rows
    (λ d. ap (λ es. any_of p es d.replica) c.in-Some.ensures.steps) c.in_ok-gather_if_dropped.ensures l.invariant

pub returns : goal.returns
returns c =
    let l = c.loop-replica in
    let xs = c.args.standings.now in
    let p = drops c.args.time in
    still_end c.args.set.now.live (λ d. any_of p l.replica-iterator d.replica) (λ d. p (standing_in xs d.replica)) c.args.rows.now l.rows (λ d. none_listed p l.replica-iterator c.in-None.ensures.steps.0 d.replica) l.invariant
