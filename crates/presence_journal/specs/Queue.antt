-- What waits for a subscriber, what it took, and what a client makes of it.
use Rattle.std.specs.Prelude.{◌≡◌, ℕ, ◌+◌, Bool, true, false, cond, ◌&&◌, nat_eq, nat_lt, List, [], ◌∷◌, ◌++◌, length, take, drop, Option, Some, None}
use Rattle.std.specs.FinMap as map
use Rattle.std.specs.Map.{lookup}
use Rattle.std.specs.List.{list_any}
use Rattle.presence_base.specs.declared.dots.Dot.{Dot}
use Rattle.presence_base.specs.declared.row.Row.{Row}
use Rattle.presence_base.specs.Order.{same_text}
use Rattle.presence_journal.specs.declared.step.Step.TheVariants as steps_are
use Rattle.presence_journal.specs.declared.rows.Item.{Item}
use Rattle.presence_journal.specs.declared.rows.Item.TheVariants as items_are
use Rattle.presence_journal.specs.declared.rows.RowDiff.{RowDiff}
use Rattle.presence_journal.specs.declared.waiting.TheConstants.{MAX_WAITING}
use Rattle.presence_journal.specs.Steps.{Step, Entry}
use Rattle.presence_journal.specs.History.{History, Begin, Then, entry_count}
use Rattle.presence_journal.specs.Present.{RowMap, place_of, present, listed, changes}

-- A subscriber is behind, and owed the whole state, or these items wait for it.
pub data Waiting : Type 0 where
  Behind : Waiting
  Queued : (items : List Item) → Waiting

abbrev pub topic_after : Step → ℕ → ℕ → Option (List ℕ) → Option (List ℕ)
topic_after (steps_are.Subscribe topic) number n before = cond (nat_eq number n) (Some topic) before
topic_after (steps_are.Unsubscribe m) number n before = cond (nat_eq m n) None before
topic_after _ number n before = before

-- the topic of the subscriber of a number
abbrev pub topic_at : List (ℕ × List ℕ) → ℕ → Option (List ℕ)
topic_at xs n = lookup (nat_eq n) xs

-- the topic of a present subscriber
unfoldable pub topic_of : History → ℕ → Option (List ℕ)
topic_of (Begin s) n = topic_at s.subscribers n
topic_of (Then h e) n = topic_after e.step e.number n (topic_of h n)

abbrev pub is_empty : List (Dot × Row) → Bool
is_empty [] = true
is_empty (x ∷ xs) = false

abbrev pub diff_item : RowDiff → List Item
diff_item d = cond (is_empty d.joins && is_empty d.leaves) [] (items_are.Diff d ∷ [])

abbrev pub shout_item : Step → List ℕ → List Item
shout_item (steps_are.Shout topic payload) t = cond (same_text topic t) (items_are.Shout payload ∷ []) []
shout_item _ t = []

-- how an entry changes the present rows of a topic
abbrev pub diff_of : History → Entry → List ℕ → RowDiff
diff_of h e t = changes (present h t) (present (Then h e) t)

-- how the entry at a place after the Start changed the present rows of a topic; where no entry is, nothing changed
unfoldable pub diff_at : History → ℕ → List ℕ → RowDiff
diff_at (Begin s) i t = record { joins = []; leaves = [] }
diff_at (Then h e) i t = cond (nat_eq (i + 1) (entry_count h)) (diff_of h e t) (diff_at h i t)

-- what an entry makes for the subscribers of a topic
unfoldable pub items_made : History → Entry → List ℕ → List Item
items_made h e t = diff_item (diff_of h e t) ++ shout_item e.step t

-- how many items may wait
abbrev pub most_waiting : ℕ
most_waiting = MAX_WAITING

abbrev pub queued : List Item → Waiting
queued q = cond (nat_lt most_waiting (length q)) Behind (Queued q)

abbrev pub push_items : Waiting → List Item → Waiting
push_items Behind new = Behind
push_items (Queued q) new = queued (q ++ new)

abbrev pub left_by : ℕ → Waiting → Waiting
left_by max Behind = Queued []
left_by max (Queued q) = Queued (drop max q)

abbrev pub queue_after : Step → ℕ → ℕ → List Item → Waiting → Waiting
queue_after (steps_are.Subscribe topic) number n new w = cond (nat_eq number n) Behind (push_items w new)
queue_after (steps_are.Take m max) number n new w = cond (nat_eq m n) (left_by max w) (push_items w new)
queue_after _ number n new w = push_items w new

abbrev pub made_for : History → Entry → Option (List ℕ) → List Item
made_for h e None = []
made_for h e (Some t) = items_made h e t

-- whether a Start counts a subscriber among the current ones
abbrev pub is_current : List ℕ → ℕ → Bool
is_current ns n = list_any (nat_eq n) ns

-- for a current one nothing waits behind a Start, and each other is behind
abbrev pub first_waiting : Bool → Waiting
first_waiting current = cond current (Queued []) Behind

-- what waits for a present subscriber (of others it says nothing)
unfoldable pub queue : History → ℕ → Waiting
queue (Begin s) n = first_waiting (is_current s.current n)
queue (Then h e) n = queue_after e.step e.number n (made_for h e (topic_of h n)) (queue h n)

abbrev pub listed_for : History → Option (List ℕ) → List (Dot × Row)
listed_for h None = []
listed_for h (Some t) = listed h t

-- what a take gives
abbrev pub given : List (Dot × Row) → ℕ → Waiting → List Item
given rows max Behind = items_are.State rows ∷ []
given rows max (Queued q) = take max q

-- what a take of a present subscriber gives here
abbrev pub items_given : History → ℕ → ℕ → List Item
items_given h n max = given (listed_for h (topic_of h n)) max (queue h n)

-- whether the subscriber is behind or has something waiting
abbrev pub is_waiting : Waiting → Bool
is_waiting Behind = true
is_waiting (Queued []) = false
is_waiting (Queued (i ∷ is)) = true

-- what was taken since the last State, that State first
abbrev pub took : List (Dot × Row) → ℕ → Waiting → List Item → List Item
took rows max Behind before = given rows max Behind
took rows max (Queued q) before = before ++ given rows max (Queued q)

-- no item waits: one who is behind is owed the state in place of items
abbrev pub is_idle : Waiting → Bool
is_idle Behind = true
is_idle (Queued []) = true
is_idle (Queued (i ∷ is)) = false

-- each present subscriber of a history is behind, or nothing waits for it
abbrev pub IsQuiet : History → Type 0
IsQuiet h = (n : ℕ) (t : List ℕ) → topic_of h n ≡ Some t → is_idle (queue h n) ≡ true

-- How one history leaves the subscribers of another: what waits for each is as it was, and nobody is owed what it wasn't
-- owed before;
abbrev pub QueuesStay : History → History → Type 0
QueuesStay h g = (n : ℕ) (t : List ℕ) → topic_of h n ≡ Some t → queue g n ≡ queue h n

-- one for which nothing waits stays so, and each other is behind;
abbrev pub left_waiting : Waiting → Waiting
left_waiting (Queued []) = Queued []
left_waiting _ = Behind

abbrev pub CurrentStay : History → History → Type 0
CurrentStay h g = (n : ℕ) (t : List ℕ) → topic_of h n ≡ Some t → queue g n ≡ left_waiting (queue h n)

-- or each is behind, and owed the state of its topic.
abbrev pub AllAreBehind : History → Type 0
AllAreBehind g = (n : ℕ) (t : List ℕ) → topic_of g n ≡ Some t → queue g n ≡ Behind

abbrev pub taken_after : Step → ℕ → List (Dot × Row) → Waiting → List Item → List Item
taken_after (steps_are.Take m max) n rows w before = cond (nat_eq m n) (took rows max w before) before
taken_after _ n rows w before = before

-- a current one has the state of its topic as it is at the Start: it was not sent again
abbrev pub first_taken : Bool → List (Dot × Row) → List Item
first_taken current rows = cond current (items_are.State rows ∷ []) []

unfoldable pub taken : History → ℕ → List Item
taken (Begin s) n = first_taken (is_current s.current n) (listed_for (Begin s) (topic_at s.subscribers n))
taken (Then h e) n = taken_after e.step n (listed_for h (topic_of h n)) (queue h n) (taken h n)

-- A client's table: a State replaces it; a Diff puts its joins in, and then takes its leaves out.
abbrev pub with_rows : RowMap → List (Dot × Row) → RowMap
with_rows m [] = m
with_rows m (x ∷ xs) = with_rows (map.insert m (place_of x.0 x.1) x.1) xs

abbrev pub without_rows : RowMap → List (Dot × Row) → RowMap
without_rows m [] = m
without_rows m (x ∷ xs) = without_rows (map.remove m (place_of x.0 x.1)) xs

abbrev pub apply_item : RowMap → Item → RowMap
apply_item m (items_are.State rows) = with_rows map.empty rows
apply_item m (items_are.Diff d) = without_rows (with_rows m d.joins) d.leaves
apply_item m (items_are.Shout payload) = m

abbrev pub fold_from : RowMap → List Item → RowMap
fold_from m [] = m
fold_from m (i ∷ is) = fold_from (apply_item m i) is

unfoldable pub fold : List Item → RowMap
fold is = fold_from map.empty is
