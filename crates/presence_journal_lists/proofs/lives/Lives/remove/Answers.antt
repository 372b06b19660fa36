use Rattle.std.proofs.Common.{ℕ, List, sym, subst}
use Rattle.presence_journal_lists.specs.Lives.{Rise, IsAt}
use Rattle.presence_journal_lists.proofs.LivesLemmas.{one_less, one_missing, rise_remove}
use Rattle.presence_journal_lists.proofs.lives.Lives.remove.Goals as goal

pub invariant_of-self : goal.invariant_of-self
invariant_of-self c =
    let ns = c.self.inside.numbers.items in
    let n = c.args.number in
    rw c.remove.ensures.items (rise_remove ns c.self.invariant n c.in-Ok.at (subst (λ (ms : List ℕ). IsAt ms n c.in-Ok.at) (sym c.self.view_is) c.in-Ok.ensures.found))

pub returns-in-Ok : goal.returns-in-Ok
returns-in-Ok c = rw (c.remove.ensures.items, c.self.view_is) (one_less _ (subst Rise c.self.view_is c.self.invariant) _ _ c.in-Ok.ensures.found)

pub returns-in-Err : goal.returns-in-Err
returns-in-Err c = λ n. one_missing _ _ _ n c.in-Err.ensures.absent
