use Rattle.presence_journal_lists.proofs.LivesLemmas.{found, not_found}
use Rattle.presence_journal_lists.proofs.lives.Lives.search.Goals as goal

pub returns-clause-found : goal.returns-clause-found
returns-clause-found c = rw (← c.self.view_is, ← c.deref.ensures.value) (found _ (rw c.deref.ensures.value c.self.invariant) c.args.number _ c.binary_search.ensures.position)

pub returns-clause-absent : goal.returns-clause-absent
returns-clause-absent c = rw (← c.self.view_is, ← c.deref.ensures.value) (not_found _ (rw c.deref.ensures.value c.self.invariant) c.args.number _ c.binary_search.ensures.position)
