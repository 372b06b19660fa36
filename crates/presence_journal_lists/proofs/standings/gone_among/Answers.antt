use Rattle.std.proofs.Common.{◌≡◌, ◌∙◌, Some, sym, subst}
use Rattle.std.specs.BTreeMap.{get}
use Rattle.std.specs.List.{AllByRecursion}
use Rattle.std.proofs.lemmas.List.Elements.{recursion_from_All}
use Rattle.presence_base.specs.declared.dots.Replica.{Replica}
use Rattle.replica_status.specs.declared.standing.Standing.{Standing}
use Rattle.presence_base.specs.Order.{replica_cmp}
use Rattle.presence_journal_lists.specs.Standings.{IsGoneAt}
use Rattle.presence_journal_lists.proofs.StandingLemmas.{one_gone}
use Rattle.presence_journal_lists.proofs.standings.gone_among.Goals as goal

pub loop-replica-init : goal.loop-replica-init
loop-replica-init c =
    let m = c.args.others.now in
    record {
      gone = subst (AllByRecursion (IsGoneAt m)) (sym c.new-list.ensures.items) tt;
      found = subst (AllByRecursion (λ (e : Replica × Standing). get replica_cmp m e.0 ≡ Some e.1)) (sym (c.into_iter-replica-iterator.ensures.into_iter_gives ∙ c.iter-replica-items.ensures.rest))
          (recursion_from_All _ _ c.iter-replica-items.ensures.found);
    }

pub loop-replica-preserved : goal.loop-replica-preserved
loop-replica-preserved c =
    let l = c.loop-replica in
    let m = c.args.others.now in
    let found = subst (AllByRecursion (λ (e : Replica × Standing). get replica_cmp m e.0 ≡ Some e.1)) c.in-Some.ensures.steps l.invariant.found in
    record { gone = one_gone m l.list.items c.push_if_gone.new.list.items c.in-Some.replica.now c.in-Some.standing.now found.0 c.in_ok-push_if_gone.ensures l.invariant.gone; found = found.1 }

pub returns : goal.returns
returns c = c.loop-replica.invariant.gone
