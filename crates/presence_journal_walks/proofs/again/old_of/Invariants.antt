use Rattle.std.proofs.Common.{◌≡◌, drop}
use Rattle.std.specs.Map.{lookup}
use Rattle.presence_base.specs.Order.{same_dot}
use Rattle.presence_journal_walks.proofs.again.old_of.Given as goal

abbrev pub invariant-loop-pair : goal.invariant-loop-pair
invariant-loop-pair l = lookup (same_dot l.dot) l.pairs ≡ lookup (same_dot l.dot) (drop l.pair-index l.pairs)
