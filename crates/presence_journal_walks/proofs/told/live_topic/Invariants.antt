use Rattle.std.proofs.Common.{◌≡◌, drop}
use Rattle.std.specs.Map.{lookup}
use Rattle.presence_base.specs.Order.{same_dot}
use Rattle.presence_journal_walks.specs.Changes.{topic_in}
use Rattle.presence_journal_walks.proofs.told.live_topic.Given as goal

abbrev pub invariant-loop-row : goal.invariant-loop-row
invariant-loop-row l = topic_in (lookup (same_dot l.dot) l.live) ≡ topic_in (lookup (same_dot l.dot) (drop l.row-index l.live))
