use Rattle.std.proofs.Common.{◌≡◌, ◌∙◌, refl, subst}
use Rattle.std.specs.List.{AllByRecursion}
use Rattle.presence_base.specs.declared.dots.Replica.{Replica}
use Rattle.replica_status.specs.declared.standing.Standing.TheVariants.{Gone}
use Rattle.replica_status.specs.Boards.{standing_in}
use Rattle.presence_journal_lists.proofs.StandingLemmas.{still_all, all_stay, drop_next}
use Rattle.presence_journal_lists.proofs.standings.Standings.put_down_all.Goals as goal

pub loop-replica-init : goal.loop-replica-init
loop-replica-init c = record { stay = λ q. refl; rest = c.requires }

pub loop-replica-preserved : goal.loop-replica-preserved
loop-replica-preserved c =
    let l = c.loop-replica in
    let old = c.args.self.now in
    let r = c.replica-item.result in
    let rest = subst (AllByRecursion (λ (q : Replica). standing_in old q ≡ Gone)) (drop_next c.args.list.now l.replica-index r c.loop-replica-test.true c.replica-item.is) l.invariant.rest in
    record { stay = all_stay old l.self c.put_down.new.self l.invariant.stay (still_all l.self c.put_down.new.self r c.put_down.result (l.invariant.stay r ∙ rest.0) c.put_down.ensures.ok c.put_down.ensures.err); rest = rest.1 }

pub returns : goal.returns
returns c = c.loop-replica.invariant.stay
