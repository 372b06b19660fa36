use Rattle.std.proofs.Common.{List, subst}
use Rattle.presence_base.specs.declared.dots.Replica.{Replica}
use Rattle.replica_status.specs.declared.standing.Standing.{Standing}
use Rattle.replica_status.specs.declared.standing.Standing.TheVariants.{Gone}
use Rattle.presence_journal_lists.specs.Standings.{Puts, AllStay, all_of}
use Rattle.presence_journal_lists.proofs.StandingLemmas.{same_stay, down_puts, err_leaves}
use Rattle.presence_journal_lists.proofs.standings.Standings.put_down.Goals as goal

pub returns-in_err-add-clause-err : goal.returns-in_err-add-clause-err
returns-in_err-add-clause-err c =
    let g = c.self.inside.gone in
    let h = c.add.new.gone in
    let m = c.self.inside.others in
    err_leaves c.from_residual.result
    (subst (λ (xs : List (Replica × Standing)). AllStay xs (all_of h m)) c.self.view_is (same_stay g h m c.self.invariant c.in_err-add.ensures.ordered c.in_err-add.ensures.err))

pub returns-clause-ok : goal.returns-clause-ok
returns-clause-ok c =
    let r = c.args.replica.now in
    let g = c.self.inside.gone in
    let h = c.add.new.gone in
    let n = c.remove.new.self in
    subst (λ (xs : List (Replica × Standing)). Puts xs (all_of h n) r Gone) c.self.view_is
    (down_puts g h c.self.inside.others n r c.self.invariant c.in_ok-add.ensures.ordered c.in_ok-add.ensures.ok c.remove.ensures.updates.0)
