-- What a rebirth tells the subscribers of a topic.
use Rattle.std.specs.Prelude.{◌≡◌, ℕ, List, ◌++◌, Some}
use Rattle.std.specs.FinMap as map
use Rattle.presence_base.specs.declared.dots.Replica.{Replica}
use Rattle.presence_base.specs.declared.dots.Dot.{Dot}
use Rattle.presence_base.specs.declared.row.Row.{Row}
use Rattle.presence_base.specs.Order.{same_replica}
use Rattle.presence_journal.specs.declared.entry.Outcome.TheVariants as outcomes_are
use Rattle.presence_journal.specs.declared.rows.Item.{Item}
use Rattle.presence_journal.specs.declared.entry.Entry.{Entry}
use Rattle.presence_journal.specs.History.{History, Then, own}
use Rattle.presence_journal.specs.Present.{RowMap, present, in_order}
use Rattle.presence_journal.specs.Queue.{Queued, topic_of, queue, queued, diff_item, diff_of}
use Rattle.presence_journal.specs.Table.{IsLegal}

-- the rows of a replica in a table, in order of key and dot
abbrev pub rows_under : Replica → RowMap → List (Dot × Row)
rows_under r m = in_order (map.retain_keys m (λ p. same_replica p.dot.replica r))

-- One diff for each subscriber that isn't behind, where its topic has own rows: those that are shown under the new replica join,
-- those that were shown under the old one leave, and no other row does.
pub record TellsOnce (h : History) (e : Entry) : Type 0 where
  pub joins : (t : List ℕ) → (diff_of h e t).joins ≡ rows_under (own (Then h e)) (present (Then h e) t)
  pub leaves : (t : List ℕ) → (diff_of h e t).leaves ≡ rows_under (own h) (present h t)
  pub waits : (n : ℕ) (t : List ℕ) (q : List Item) → topic_of h n ≡ Some t → queue h n ≡ Queued q
      → queue (Then h e) n ≡ queued (q ++ diff_item (diff_of h e t))

abbrev pub RebirthTellsOnce : Type 0
RebirthTellsOnce = (h : History) (e : Entry) (pairs : List (Dot × Dot)) → IsLegal (Then h e)
    → e.outcome ≡ outcomes_are.Reborn pairs → TellsOnce h e
