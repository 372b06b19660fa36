use Rattle.std.proofs.Common.{ℕ, List, ◌∙◌, ap, subst}
use Rattle.presence_journal_lists.specs.Standings.{gone_list, gone_lives}
use Rattle.presence_journal_known.specs.LeftOut.{is_listed}
use Rattle.tracker_known.specs.Steps.{LosesReplicas}
use Rattle.tracker_known.proofs.FadingLemmas.{still_all, still_none}
use Rattle.tracker_known.proofs.StartLemmas.{still_some, next_names}
use Rattle.tracker_known.proofs.starting.forget_names.Goals as goal

pub loop-name-init : goal.loop-name-init
loop-name-init c = still_all c.args.set.now _ _ (λ r. ap (λ es. is_listed (gone_list es) r) (c.into_iter-name-iterator.ensures.into_iter_gives ∙ c.iter-name-items.ensures.rest))

pub loop-name-preserved : goal.loop-name-preserved
loop-name-preserved c =
    let l = c.loop-name in
    let name = c.in-Some.name.now in
    let ns = c.in-Some.lives.now in
    still_some c.args.set.now l.set c.forget_lives.new.set (is_listed (gone_list c.args.names.now.entries)) (is_listed (gone_list l.name-iterator)) (is_listed (gone_lives name ns)) (is_listed (gone_list c.next.new.self))
    (next_names l.name-iterator name ns c.next.new.self c.in-Some.ensures.steps)
    (subst (λ (k : List ℕ). LosesReplicas l.set (is_listed (gone_lives name k)) c.forget_lives.new.set) c.as_slice.ensures c.forget_lives.ensures) l.invariant

pub returns : goal.returns
returns c =
    let l = c.loop-name in
    still_none c.args.set.now l.set (is_listed (gone_list c.args.names.now.entries)) (is_listed (gone_list l.name-iterator)) (λ r. ap (λ es. is_listed (gone_list es) r) c.in-None.ensures.steps.0) l.invariant
