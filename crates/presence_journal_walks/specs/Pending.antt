-- What waits for a subscriber, as the code gives it.
use Rattle.std.specs.Prelude.{◌≡◌, ℕ, List}
use Rattle.presence_journal.specs.declared.rows.Item.{Item}
use Rattle.presence_journal_walks.specs.declared.pending.Pending.{Pending}
use Rattle.presence_journal_walks.specs.declared.pending.Pending.TheVariants as pending_is
use Rattle.presence_journal.specs.Queue.{Waiting, Behind, Queued, queue_after}
use Rattle.presence_journal.specs.declared.entry.Entry.{Entry}

abbrev pub waiting_of : Pending → Waiting
waiting_of pending_is.Behind = Behind
waiting_of (pending_is.Items v) = Queued v.items

-- what waits for a subscriber after an entry that made these items for it
abbrev pub IsAfter : ℕ → Entry → List Item → Pending → Pending → Type 0
IsAfter n e made before p = waiting_of p ≡ queue_after e.step e.number n made (waiting_of before)
