use Rattle.std.proofs.Common.{option_copied, take}
use Rattle.std.specs.BTreeMap.{get}
use Rattle.presence_base.specs.Order.{dot_cmp}
use Rattle.presence_journal.specs.History.{Begin, onto}
use Rattle.presence_journal.proofs.Topics.{Waits}
use Rattle.presence_journal.proofs.Walking.{ShowsAlike}
use Rattle.presence_journal_walks.specs.Pending.{waiting_of}
use Rattle.presence_journal_walks.proofs.pending.walk_pending.Given as goal

abbrev pub invariant-loop-place : goal.invariant-loop-place
invariant-loop-place l = Waits (ShowsAlike (get dot_cmp l.rows) l.topic) l.number (option_copied l.subscribed) (waiting_of l.pending) (onto (Begin l.start) (take l.place l.entries))
