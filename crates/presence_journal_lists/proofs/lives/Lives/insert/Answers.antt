use Rattle.presence_journal_lists.proofs.LivesLemmas.{one_already, one_more, rise_insert}
use Rattle.presence_journal_lists.proofs.lives.Lives.insert.Goals as goal

pub returns-in-Ok-clause-ok : goal.returns-in-Ok-clause-ok
returns-in-Ok-clause-ok c = λ n. one_already _ _ _ n c.in-Ok.ensures.found

pub invariant_of-self-in-Err : goal.invariant_of-self-in-Err
invariant_of-self-in-Err c = rw c.in_ok-insert-in-Err.ensures.items (rise_insert _ _ _ (rw c.self.view_is c.in-Err.ensures.absent) c.self.invariant)

pub returns-in_ok-insert-in-Err-clause-ok : goal.returns-in_ok-insert-in-Err-clause-ok
returns-in_ok-insert-in-Err-clause-ok c = rw (c.in_ok-insert-in-Err.ensures.items, c.self.view_is) (λ n. one_more _ _ _ n)
