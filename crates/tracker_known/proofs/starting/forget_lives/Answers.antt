use Rattle.std.proofs.Common.{◌+◌, drop, get_or, ap, refl, sym, subst}
use Rattle.std.proofs.lemmas.List.{drop_all, get_or_default}
use Rattle.presence_base.specs.Order.{same_replica}
use Rattle.orswot_core.specs.Sets.{DotRows}
use Rattle.presence_journal.proofs.Walking.{drop_next}
use Rattle.presence_journal_lists.specs.Standings.{gone_life, gone_lives}
use Rattle.presence_journal_known.specs.LeftOut.{is_listed}
use Rattle.tracker_known.specs.Steps.{LosesReplicas}
use Rattle.tracker_known.proofs.FadingLemmas.{still_all, still_none}
use Rattle.tracker_known.proofs.StartLemmas.{still_some, loses_one}
use Rattle.tracker_known.proofs.starting.forget_lives.Goals as goal

pub loop-life-init : goal.loop-life-init
loop-life-init c = still_all c.args.set.now _ _ (λ r. refl)

pub loop-life-preserved : goal.loop-life-preserved
loop-life-preserved c =
    let l = c.loop-life in
    let name = c.args.name.now in
    let ns = c.args.lives.now in
    let n = get_or ns l.life-index 0 in
    let later = is_listed (gone_lives name (drop (l.life-index + 1) ns)) in
    let one = (gone_life name n).0 in
    still_some c.args.set.now l.set c.forget.new.self (is_listed (gone_lives name ns)) (is_listed (gone_lives name (drop l.life-index ns))) (λ r. same_replica r one) later
    (λ r. ap (λ k. is_listed (gone_lives name k) r) (drop_next ns l.life-index n c.loop-life-test.true (get_or_default ns l.life-index 0 n c.loop-life-test.true)))
    (subst (λ (u : DotRows). LosesReplicas l.set (λ r. same_replica r one) u) (sym c.forget.ensures) (loses_one l.set one)) l.invariant

pub returns : goal.returns
returns c =
    let l = c.loop-life in
    let name = c.args.name.now in
    let ns = c.args.lives.now in
    still_none c.args.set.now l.set (is_listed (gone_lives name ns)) (is_listed (gone_lives name (drop l.life-index ns))) (λ r. ap (λ k. is_listed (gone_lives name k) r) (drop_all l.life-index ns c.loop-life-test.false)) l.invariant
