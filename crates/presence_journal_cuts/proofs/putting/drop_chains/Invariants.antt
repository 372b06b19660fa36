use Rattle.std.proofs.Common.{◌≡◌, ℕ, cond, None, drop}
use Rattle.std.specs.BTreeMap.{get}
use Rattle.std.specs.Ordering.{nat_cmp}
use Rattle.presence_journal_cuts.specs.Changes.{is_counted}
use Rattle.presence_journal_cuts.proofs.putting.drop_chains.Given as goal

abbrev pub invariant-loop-dot : goal.invariant-loop-dot
invariant-loop-dot l = (c : ℕ) → cond (is_counted l.dots c) None (get nat_cmp l.fn.chains c) ≡ cond (is_counted (drop l.dot-index l.dots) c) None (get nat_cmp l.chains c)
