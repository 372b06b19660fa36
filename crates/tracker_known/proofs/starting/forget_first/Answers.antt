use Rattle.std.proofs.Common.{◌∙◌, ap, sym, subst}
use Rattle.presence_base.specs.Order.{same_replica}
use Rattle.orswot_core.specs.Sets.{DotRows}
use Rattle.presence_journal_lists.specs.Standings.{gone_life, first_list}
use Rattle.presence_journal_known.specs.LeftOut.{is_listed}
use Rattle.tracker_known.specs.Steps.{LosesReplicas}
use Rattle.tracker_known.proofs.FadingLemmas.{still_all, still_none}
use Rattle.tracker_known.proofs.StartLemmas.{still_some, loses_one}
use Rattle.tracker_known.proofs.starting.forget_first.Goals as goal

pub loop-name-init : goal.loop-name-init
loop-name-init c = still_all c.args.set.now _ _ (λ r. ap (λ es. is_listed (first_list es) r) (c.into_iter-name-iterator.ensures.into_iter_gives ∙ c.iter-name-items.ensures.rest))

pub loop-name-preserved : goal.loop-name-preserved
loop-name-preserved c =
    let l = c.loop-name in
    let one = (gone_life c.in-Some.name.now c.in-Some.life.now).0 in
    still_some c.args.set.now l.set c.forget.new.self (is_listed (first_list c.args.first.now.entries)) (is_listed (first_list l.name-iterator)) (λ r. same_replica r one) (is_listed (first_list c.next.new.self))
    (λ r. ap (λ es. is_listed (first_list es) r) c.in-Some.ensures.steps)
    (subst (λ (u : DotRows). LosesReplicas l.set (λ r. same_replica r one) u) (sym c.forget.ensures) (loses_one l.set one)) l.invariant

pub returns : goal.returns
returns c =
    let l = c.loop-name in
    still_none c.args.set.now l.set (is_listed (first_list c.args.first.now.entries)) (is_listed (first_list l.name-iterator)) (λ r. ap (λ es. is_listed (first_list es) r) c.in-None.ensures.steps.0) l.invariant
