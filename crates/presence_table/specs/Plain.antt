-- The presence table as plain data: what is asked changes it step by step, and each answer but a cut's is read from it.
use Rattle.std.specs.Prelude.{ℕ, ◌+◌, ◌^◌, min, true, false, cond, not, ◌&&◌, nat_eq, nat_lt, List, [], ◌∷◌, ◌++◌, length, take, drop, filter, map as each, Option, Some, None, option_map}
use Rattle.std.specs.List.{list_any}
use Rattle.std.specs.Map.{lookup}
use Rattle.std.specs.FinMap as map
use Rattle.presence_base.specs.declared.dots.Replica.{Replica}
use Rattle.presence_base.specs.declared.dots.Dot.{Dot}
use Rattle.presence_base.specs.declared.row.Row.{Row}
use Rattle.presence_base.specs.Order.{same_text, same_replica, same_dot}
use Rattle.orswot_core.specs.Telling.{covers}
use Rattle.replica_status.specs.declared.status.Status.{Status}
use Rattle.replica_status.specs.Boards.{standing_in}
use Rattle.presence_journal.specs.declared.step.Step.TheVariants as steps_are
use Rattle.presence_journal.specs.declared.entry.Outcome.TheVariants as outcomes_are
use Rattle.presence_journal.specs.declared.waiting.TheConstants.{MAX_WAITING}
use Rattle.presence_journal.specs.declared.rows.Place.{Place}
use Rattle.presence_journal.specs.declared.rows.Item.{Item}
use Rattle.presence_journal.specs.declared.rows.Item.TheVariants as items_are
use Rattle.presence_journal.specs.declared.step.Step.{Step}
use Rattle.presence_journal.specs.declared.entry.Outcome.{Outcome}
use Rattle.presence_journal.specs.declared.entry.Start.{Start}
use Rattle.presence_journal.specs.History.{History, Begin, Then}
use Rattle.presence_journal.specs.Present.{place_cmp}
use Rattle.presence_journal.specs.Queue.{Waiting, Behind, Queued}
use Rattle.presence_table.specs.Others.{Rows, Others, status as status_in, is_up, can_be_reborn, reborn, renewed, tells_of, rows_merged, rows_again, own_after, others_after}

pub record Subscriber : Type 0 where
  pub topic : List ℕ
  pub waiting : Waiting

pub record Table : Type 0 where
  -- the replica whose rows are tracked here, and how many of its counts are used
  pub own : Replica
  pub count : ℕ
  -- the number of the last entry, and how many there are, the Start among them
  pub last : ℕ
  pub entries : ℕ
  -- up to which count the last cut told
  pub last_cut : ℕ
  pub rows : Rows
  -- what is known of other nodes
  pub others : Others
  -- by the numbers of the entries that made them
  pub subscribers : ℕ → Option Subscriber

-- What it shows.

abbrev pub status : Table → Replica → Status
status t r = status_in t.own t.others r

-- rows of one topic by key and dot
abbrev pub Room : Type 0
Room = map.FinMap place_cmp Row

abbrev pub placed : Dot × Row → Place × Row
placed x = (record { key = x.1.key; dot = x.0 }, x.1)

-- the rows of a topic whose replicas are up
unfoldable pub present : Table → List ℕ → Room
present t topic =
    map.from_entries (each placed
    (filter (λ (x : Dot × Row). is_up (status t x.0.replica) && same_text x.1.topic topic) (map.entries t.rows)))

abbrev pub in_order : Room → List (Dot × Row)
in_order room = each (λ e. (e.0.dot, e.1)) (map.entries room)

abbrev pub listed : Table → List ℕ → List (Dot × Row)
listed t topic = in_order (present t topic)

abbrev pub under : List ℕ → List (Dot × Row) → List (Dot × Row)
under key = filter (λ (x : Dot × Row). same_text x.1.key key)

-- the own rows of a session
abbrev pub mine : Table → ℕ → List ℕ → List (Dot × Row)
mine t pid topic = filter (λ (x : Dot × Row). same_replica x.0.replica t.own && nat_eq x.1.pid pid) (listed t topic)

abbrev pub dots_of : List (Dot × Row) → List Dot
dots_of = each (λ x. x.0)

abbrev pub own_rows : Table → Rows
own_rows t = map.retain_keys t.rows (λ d. same_replica d.replica t.own)

-- What a step comes to.

abbrev pub next_dot : Table → Dot
next_dot t = record { replica = t.own; count = t.count + 1 }

-- where a count is used, one has to be left
abbrev pub counting : Table → Outcome → Option Outcome
counting t o = cond (nat_lt t.count (2 ^ 62)) (Some o) None

abbrev pub tracked : Table → List (Dot × Row) → Option Outcome
tracked t [] = counting t (outcomes_are.Added (next_dot t))
tracked t (x ∷ xs) = Some outcomes_are.AlreadyTracked

abbrev pub updated : Table → List (Dot × Row) → Option Outcome
updated t [] = Some outcomes_are.NoPresence
updated t (x ∷ xs) = counting t (outcomes_are.Replaced (next_dot t) x.0)

abbrev pub untracked : Table → List Dot → Option Outcome
untracked t [] = Some (outcomes_are.Removed [])
untracked t (d ∷ ds) = counting t (outcomes_are.Removed (d ∷ ds))

abbrev pub taking : ℕ → Waiting → Outcome
taking max Behind = outcomes_are.Taken true 1
taking max (Queued items) = outcomes_are.Taken false (min max (length items))

-- what a take gives: the rows to one that is behind, else the first items
abbrev pub given_of : List (Dot × Row) → ℕ → Waiting → List Item
given_of rows max Behind = items_are.State rows ∷ []
given_of rows max (Queued items) = take max items

abbrev pub given_to : Table → ℕ → Option Subscriber → List Item
given_to t max None = []
given_to t max (Some s) = given_of (listed t s.topic) max s.waiting

abbrev pub given : Table → ℕ → ℕ → List Item
given t n max = given_to t max (t.subscribers n)

abbrev pub reborn_as : Table → ℕ → Outcome
reborn_as t i = outcomes_are.Reborn (renewed (reborn t.own i) 0 (map.keys (own_rows t)))

-- None: refused
-- None: refused, by no entry
unfoldable pub outcome_of : Table → Step → Option Outcome
outcome_of t (steps_are.Track pid topic key meta) = tracked t (under key (mine t pid topic))
outcome_of t (steps_are.Update pid topic key meta) = updated t (under key (mine t pid topic))
outcome_of t (steps_are.Untrack pid topic key) = untracked t (dots_of (under key (mine t pid topic)))
outcome_of t (steps_are.UntrackAll pid topic) = untracked t (dots_of (mine t pid topic))
outcome_of t (steps_are.List topic) = Some (outcomes_are.Shown (dots_of (listed t topic)))
outcome_of t (steps_are.Get topic key) = Some (outcomes_are.Shown (dots_of (under key (listed t topic))))
outcome_of t (steps_are.Subscribe topic) = Some (outcomes_are.Subscribed (t.last + 1))
outcome_of t (steps_are.Take n max) = option_map (λ (x : Subscriber). taking max x.waiting) (t.subscribers n)
outcome_of t (steps_are.Unsubscribe n) = option_map (λ (x : Subscriber). outcomes_are.Ended) (t.subscribers n)
outcome_of t (steps_are.Shout topic payload) = Some outcomes_are.Sent
outcome_of t (steps_are.Heard replica now) = Some outcomes_are.Noted
outcome_of t (steps_are.Tick now) = Some outcomes_are.Noted
outcome_of t (steps_are.PermDown replica) = Some outcomes_are.Noted
outcome_of t steps_are.Cut = Some (outcomes_are.CutAt t.last_cut t.count)
outcome_of t (steps_are.Merge told) = Some outcomes_are.Merged
outcome_of t (steps_are.Rebirth i) = cond (can_be_reborn t.own t.others i) (Some (reborn_as t i)) None

-- What it leaves.

-- the row that a step makes, in the place of another one or of none
abbrev pub row_made : Step → Option Dot → Option Row
row_made (steps_are.Track pid topic key meta) prev =
    Some (record { topic = topic; key = key; pid = pid; meta = meta; prev = prev })
row_made (steps_are.Update pid topic key meta) prev =
    Some (record { topic = topic; key = key; pid = pid; meta = meta; prev = prev })
row_made _ prev = None

abbrev pub put : Dot → Option Row → Rows → Rows
put d None rows = rows
put d (Some r) rows = map.insert rows d r

abbrev pub rows_after : Table → Step → Outcome → Rows
rows_after t s (outcomes_are.Added new) = put new (row_made s None) t.rows
rows_after t s (outcomes_are.Replaced new old) = put new (row_made s (Some old)) (map.remove t.rows old)
rows_after t s (outcomes_are.Removed dots) = map.retain_keys t.rows (λ d. not (list_any (same_dot d) dots))
rows_after t s outcomes_are.Merged = rows_merged t.own t.others s t.rows
rows_after t s (outcomes_are.Reborn pairs) = rows_again t.rows pairs
rows_after t s o = t.rows

-- a removal uses a count of its own; a rebirth counts the rows that go on from 1
abbrev pub count_after : Outcome → ℕ → ℕ
count_after (outcomes_are.Added d) n = n + 1
count_after (outcomes_are.Replaced d old) n = n + 1
count_after (outcomes_are.Removed (d ∷ ds)) n = n + 1
count_after (outcomes_are.Reborn pairs) n = length pairs
count_after o n = n

abbrev pub cut_after : Outcome → ℕ → ℕ
cut_after (outcomes_are.CutAt from to) n = to
cut_after (outcomes_are.Reborn pairs) n = 0
cut_after o n = n

-- What subscribers are told.

-- the rows of the one that the other has not
abbrev pub missing_in : Room → Room → List (Dot × Row)
missing_in other room = in_order (map.retain_keys room (λ p. not (map.contains_key other p)))

abbrev pub told_diff : List (Dot × Row) → List (Dot × Row) → List Item
told_diff [] [] = []
told_diff joins leaves = items_are.Diff (record { joins = joins; leaves = leaves }) ∷ []

abbrev pub told_shout : Step → List ℕ → List Item
told_shout (steps_are.Shout topic payload) t = cond (same_text topic t) (items_are.Shout payload ∷ []) []
told_shout s t = []

-- how the rows of a topic changed between two tables, and what was said there
abbrev pub told : Table → Table → Step → List ℕ → List Item
told t u s topic =
    told_diff (missing_in (present t topic) (present u topic)) (missing_in (present u topic) (present t topic))
    ++ told_shout s topic

-- who has more waiting than may wait is behind, and owed the whole state
abbrev pub queued : List Item → Waiting
queued items = cond (nat_lt MAX_WAITING (length items)) Behind (Queued items)

abbrev pub waiting_more : Waiting → List Item → Waiting
waiting_more Behind new = Behind
waiting_more (Queued items) new = queued (items ++ new)

abbrev pub taken : ℕ → Waiting → Waiting
taken max Behind = Queued []
taken max (Queued items) = Queued (drop max items)

-- what waits behind a step for the subscriber of number n
abbrev pub waiting_after : Step → ℕ → List Item → Waiting → Waiting
waiting_after (steps_are.Take m max) n new w = cond (nat_eq m n) (taken max w) (waiting_more w new)
waiting_after s n new w = waiting_more w new

-- and whether there is one behind the step, which has the next number
abbrev pub subscriber_after : Step → ℕ → ℕ → Option Subscriber → Option Subscriber
subscriber_after (steps_are.Subscribe topic) next n x =
    cond (nat_eq next n) (Some (record { topic = topic; waiting = Behind })) x
subscriber_after (steps_are.Unsubscribe m) next n x = cond (nat_eq m n) None x
subscriber_after s next n x = x

-- all but what subscribers are told
abbrev pub moved : Table → Step → Outcome → Table
moved t s o = record {
  own = own_after s t.own;
  count = count_after o t.count;
  last = t.last + 1;
  entries = t.entries + 1;
  last_cut = cut_after o t.last_cut;
  rows = rows_after t s o;
  others = others_after t.own t.others s (count_after o t.count);
  subscribers = t.subscribers;
}

unfoldable pub stepped : Table → Step → Outcome → Table
stepped t s o = record (moved t s o) {
  subscribers = λ n. subscriber_after s (t.last + 1) n (option_map
      (λ (x : Subscriber). record x { waiting = waiting_after s n (told t (moved t s o) s x.topic) x.waiting }) (t.subscribers n));
}

-- The table of a history.

abbrev pub opened : Start → Table
opened s = record {
  own = s.own;
  count = s.count;
  last = s.number;
  entries = 1;
  last_cut = s.last_cut;
  rows = map.from_entries s.content.live;
  others = record {
    standing = standing_in s.standings;
    time = s.time;
    known = covers s.content;
    named = λ r. tells_of r s.content;
  };
  subscribers = λ n. option_map
      (λ topic. record { topic = topic; waiting = cond (list_any (nat_eq n) s.current) (Queued []) Behind })
      (lookup (nat_eq n) s.subscribers);
}

unfoldable pub table : History → Table
table (Begin s) = opened s
table (Then h e) = stepped (table h) e.step e.outcome
