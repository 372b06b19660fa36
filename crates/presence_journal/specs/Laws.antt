-- The laws of the presence table, which the functions of `laws` state.
use Rattle.std.specs.Prelude.{◌≡◌, ℕ, zero, suc, ◌+◌, ◌<◌, ◌≤◌, Bool, true, false, cond, List, [], ◌∷◌, ◌++◌, length, map as each, reverse, replicate, codes, nat_eq, Option, Some, None}
use Rattle.std.specs.List.Sorted.{IsStrictlySortedBy}
use Rattle.std.specs.Map.{lookup}
use Rattle.std.specs.FinMap as map
use Rattle.serde_json.specs.Data.{Data, null, string, object, member, no_members}
use Rattle.presence_base.specs.declared.dots.Replica.{Replica}
use Rattle.presence_base.specs.declared.dots.Dot.{Dot}
use Rattle.presence_base.specs.declared.row.Row.{Row}
use Rattle.presence_base.specs.Order.{dot_cmp, same_text, same_replica, same_dot}
use Rattle.presence_base.specs.Refs.{ref_of}
use Rattle.presence_journal.specs.declared.step.Step.TheVariants as steps_are
use Rattle.presence_journal.specs.declared.entry.Outcome.TheVariants as outcomes_are
use Rattle.presence_journal.specs.declared.rows.Item.{Item}
use Rattle.presence_journal.specs.declared.rows.Item.TheVariants as items_are
use Rattle.presence_journal.specs.declared.rows.Place.{Place}
use Rattle.presence_journal.specs.Steps.{Step, Outcome, Entry}
use Rattle.presence_journal.specs.History.{History, Then, begun, newest_first, own, known, has_dot, row_again, row, shown}
use Rattle.presence_journal.specs.Present.{RowMap, of_topic, present, listed, changes, dots_added, dots_taken}
use Rattle.presence_journal.specs.Queue.{Behind, Queued, most_waiting, topic_of, queue, taken, fold, apply_item, diff_of, items_made}
use Rattle.presence_journal.specs.StepLimits.{is_within_limits}
use Rattle.presence_journal.specs.Table.{IsLegal, IsKept, is_step, accepted, next_entry, after}

-- what a subscriber took since its last State, followed by what waits for it, folds to the present rows of its topic
abbrev pub FoldsToPresent : Type 0
FoldsToPresent = (h : History) → IsLegal h → (n : ℕ) (t : List ℕ) → topic_of h n ≡ Some t → (q : List Item)
    → queue h n ≡ Queued q → fold (taken h n ++ q) ≡ present h t

abbrev pub of_key : List ℕ → Option Row → Option Row
of_key k None = None
of_key k (Some r) = cond (same_text r.key k) (Some r) None

-- at a key and dot, the present rows of a topic have the row that is shown under the dot, if it has the topic and the key
abbrev pub PresentIsShown : Type 0
PresentIsShown = (h : History) (t : List ℕ) (p : Place)
    → map.get (present h t) p ≡ of_key p.key (of_topic t (shown h p.dot))

-- each row stands at its own key
abbrev pub IsPlaced : RowMap → Type 0
IsPlaced m = (p : Place) (r : Row) → map.get m p ≡ Some r → r.key ≡ p.key

-- a place that both have has one row in both
abbrev pub Agrees : RowMap → RowMap → Type 0
Agrees m n = (p : Place) (r s : Row) → map.get m p ≡ Some r → map.get n p ≡ Some s → r ≡ s

-- the changes between two tables lead from the one to the other
abbrev pub ChangesLead : Type 0
ChangesLead = (old new : RowMap) → IsPlaced old → IsPlaced new → Agrees old new
    → apply_item old (items_are.Diff (changes old new)) ≡ new

-- so does the difference that an entry makes
abbrev pub DiffsLead : Type 0
DiffsLead = (h : History) (e : Entry) (t : List ℕ)
    → apply_item (present h t) (items_are.Diff (diff_of h e t)) ≡ present (Then h e) t

-- the step may change rows of the topic: what is told of other replicas, what is heard of them and the time that passes
-- concern every topic
abbrev pub concerns : Step → List ℕ → Bool
concerns (steps_are.Track pid topic key meta) t = same_text topic t
concerns (steps_are.Update pid topic key meta) t = same_text topic t
concerns (steps_are.Untrack pid topic key) t = same_text topic t
concerns (steps_are.UntrackAll pid topic) t = same_text topic t
concerns (steps_are.Heard replica now) t = true
concerns (steps_are.Tick now) t = true
concerns (steps_are.PermDown replica) t = true
concerns (steps_are.Merge told) t = true
concerns (steps_are.Rebirth incarnation) t = true
concerns _ t = false

-- the step is of the own replica alone: it tells of no other, hears none, and no time passes in it
abbrev pub is_callers : Step → Bool
is_callers (steps_are.Heard replica now) = false
is_callers (steps_are.Tick now) = false
is_callers (steps_are.PermDown replica) = false
is_callers (steps_are.Merge told) = false
is_callers (steps_are.Rebirth incarnation) = false
is_callers _ = true

-- a step leaves the present rows of each topic that it does not concern
abbrev pub OthersStay : Type 0
OthersStay = (h : History) → IsLegal h → (s : Step) (seat : Option ℕ) (t : List ℕ) → concerns s t ≡ false
    → present (after h s seat) t ≡ present h t

-- the step may make items for the subscribers of the topic
abbrev pub reaches : Step → List ℕ → Bool
reaches (steps_are.Shout topic payload) t = same_text topic t
reaches s t = concerns s t

-- a step makes no items for the subscribers of a topic that it does not reach
abbrev pub OthersHearNothing : Type 0
OthersHearNothing = (h : History) → IsLegal h → (s : Step) (seat : Option ℕ) (o : Outcome) → accepted h s ≡ Some o
    → (t : List ℕ) → reaches s t ≡ false → items_made h (next_entry h s seat o) t ≡ []

-- a step that is refused changes nothing
abbrev pub RefusedStays : Type 0
RefusedStays = (h : History) (s : Step) (seat : Option ℕ) → accepted h s ≡ None → after h s seat ≡ h

-- a step within its limits leads from a legal history to a legal one
abbrev pub StaysLegal : Type 0
StaysLegal = (h : History) → IsLegal h → (s : Step) (seat : Option ℕ) → is_step s ≡ true → IsLegal (after h s seat)

-- and one that is within all its limits leads from what a journal keeps to what it keeps
abbrev pub StaysKept : Type 0
StaysKept = (h : History) → IsKept h → (s : Step) (seat : Option ℕ) → is_within_limits s ≡ true
    → IsKept (after h s seat)

-- a dot that a step adds was not counted before it
abbrev pub NewIsUnknown : Type 0
NewIsUnknown = (h : History) → IsLegal h → (s : Step) (o : Outcome) → accepted h s ≡ Some o → (d : Dot)
    → has_dot (dots_added o) d ≡ true → known h d ≡ false

-- and is from then on
abbrev pub NewIsCounted : Type 0
NewIsCounted = (h : History) → IsLegal h → (s : Step) (seat : Option ℕ) (o : Outcome) → accepted h s ≡ Some o
    → (d : Dot) → has_dot (dots_added o) d ≡ true → known (after h s seat) d ≡ true

-- a row stands under a dot that was counted
abbrev pub RowsAreKnown : Type 0
RowsAreKnown = (h : History) → IsLegal h → (d : Dot) (r : Row) → row h d ≡ Some r → known h d ≡ true

-- no two rows of a history have one reference
abbrev pub RefsAreDistinct : Type 0
RefsAreDistinct = (h : History) → IsLegal h → (d e : Dot) (r s : Row) → row h d ≡ Some r → row h e ≡ Some s
    → ref_of d ≡ ref_of e → d ≡ e

-- but for the row under the new dot, a step of the own replica alone leaves every row as it was, and takes out those alone that its outcome names
abbrev pub OnlyNamedLeave : Type 0
OnlyNamedLeave = (h : History) → IsLegal h → (s : Step) (seat : Option ℕ) (o : Outcome) → is_callers s ≡ true
    → accepted h s ≡ Some o → (t : List ℕ) (p : Place) → has_dot (dots_added o) p.dot ≡ false
    → map.get (present (after h s seat) t) p ≡ cond (has_dot (dots_taken o) p.dot) None (map.get (present h t) p)

-- no more items wait for a subscriber than may
abbrev pub HoldsMost : Type 0
HoldsMost = (h : History) (n : ℕ) (q : List Item) → queue h n ≡ Queued q → length q ≤ most_waiting

-- the entry makes the subscriber, or is its take
abbrev pub renews : Step → ℕ → ℕ → Bool
renews (steps_are.Subscribe topic) number n = nat_eq number n
renews (steps_are.Take m max) number n = nat_eq m n
renews _ number n = false

-- any other entry puts what it makes behind what waits for a subscriber
abbrev pub QueuesItems : Type 0
QueuesItems = (h : History) (e : Entry) (n : ℕ) (t : List ℕ) (q : List Item) → topic_of h n ≡ Some t
    → queue h n ≡ Queued q → renews e.step e.number n ≡ false → length (q ++ items_made h e t) ≤ most_waiting
    → queue (Then h e) n ≡ Queued (q ++ items_made h e t)

-- where that is more than may wait, the subscriber falls behind
abbrev pub FallsBehind : Type 0
FallsBehind = (h : History) (e : Entry) (n : ℕ) (t : List ℕ) (q : List Item) → topic_of h n ≡ Some t
    → queue h n ≡ Queued q → renews e.step e.number n ≡ false → most_waiting < length (q ++ items_made h e t)
    → queue (Then h e) n ≡ Behind

-- and stays so until it takes
abbrev pub StaysBehind : Type 0
StaysBehind = (h : History) (e : Entry) (n : ℕ) → queue h n ≡ Behind → renews e.step e.number n ≡ false
    → queue (Then h e) n ≡ Behind

-- Worked runs, of a node `a` in its first life.

abbrev pub ran : History → List Step → History
ran h [] = h
ran h (s ∷ ss) = ran (after h s None) ss

-- the oldest first
abbrev pub outcomes : History → List Outcome
outcomes h = reverse (each (λ e. e.outcome) (newest_first h))

abbrev pub empty : History
empty = begun (record { name = codes "a"; incarnation = 1 })

abbrev pub dot : ℕ → Dot
dot n = record { replica = record { name = codes "a"; incarnation = 1 }; count = n }

abbrev pub room : List ℕ
room = codes "room:a"

abbrev pub user : List ℕ
user = codes "u1"

abbrev pub with_status : List ℕ → Data
with_status s = object (member (codes "status") (string s) no_members)

abbrev pub here : Data
here = with_status (codes "here")

abbrev pub away : Data
away = with_status (codes "away")

abbrev pub attic : List ℕ
attic = codes "room:attic"

abbrev pub other_user : List ℕ
other_user = codes "u2"

abbrev pub row_at : List ℕ → List ℕ → ℕ → Data → Option Dot → Row
row_at topic key pid meta prev = record { topic = topic; key = key; pid = pid; meta = meta; prev = prev }

abbrev pub row_of : ℕ → Data → Option Dot → Row
row_of = row_at room user

abbrev pub subscribe : Step
subscribe = steps_are.Subscribe room

abbrev pub take_all : Step
take_all = steps_are.Take 1 256

abbrev pub track_at : List ℕ → List ℕ → ℕ → Step
track_at topic key pid = steps_are.Track pid topic key here

abbrev pub track : ℕ → Step
track = track_at room user

abbrev pub update : ℕ → Step
update pid = steps_are.Update pid room user away

abbrev pub untrack : ℕ → Step
untrack pid = steps_are.Untrack pid room user

-- session 1 on two keys of a room and on another topic, and session 2 on one of the keys
abbrev pub two_topics : List Step
two_topics = track_at room other_user 1 ∷ track 1 ∷ track_at attic user 1 ∷ track 2 ∷ []

-- so many shouts on the topic
abbrev pub shouts : ℕ → List Step
shouts zero = []
shouts (suc n) = steps_are.Shout room null ∷ shouts n

abbrev pub first_run : History
first_run = ran empty (subscribe ∷ take_all ∷ track 1 ∷ take_all ∷ steps_are.List room ∷ [])

abbrev pub updated_run : History
updated_run = ran empty (subscribe ∷ track 1 ∷ take_all ∷ update 1 ∷ [])

abbrev pub tracked_twice : History
tracked_twice = ran empty (track 1 ∷ track 1 ∷ [])

abbrev pub tracked_again : History
tracked_again = ran empty (track 1 ∷ untrack 1 ∷ track 1 ∷ [])

abbrev pub two_pids : History
two_pids = ran empty (track 1 ∷ track 2 ∷ [])

abbrev pub untracked_twice : History
untracked_twice = ran empty (track 1 ∷ untrack 1 ∷ untrack 1 ∷ track 1 ∷ [])

abbrev pub key_run : History
key_run = ran empty (two_topics ++ steps_are.Get room user ∷ steps_are.List attic ∷ [])

abbrev pub untracked_all : History
untracked_all = ran empty (two_topics ++ steps_are.UntrackAll 1 room ∷ [])

-- the last take is refused
abbrev pub ended_run : History
ended_run = ran empty (subscribe ∷ take_all ∷ steps_are.Unsubscribe 1 ∷ take_all ∷ [])

abbrev pub shouted : ℕ → History
shouted n = ran empty (subscribe ∷ take_all ∷ shouts n)

abbrev pub shouted_elsewhere : History
shouted_elsewhere = ran empty (subscribe ∷ take_all ∷ steps_are.Shout attic null ∷ [])

-- a diff and 256 shouts, and then a take
abbrev pub caught_up : History
caught_up = ran empty (subscribe ∷ take_all ∷ track 1 ∷ shouts 256 ++ take_all ∷ [])

pub record AsWorked : Type 0 where
  pub first_outcomes : outcomes first_run ≡ outcomes_are.Subscribed 1 ∷ outcomes_are.Taken true 1
      ∷ outcomes_are.Added (dot 1) ∷ outcomes_are.Taken false 1 ∷ outcomes_are.Shown (dot 1 ∷ []) ∷ []
  pub first_items : taken first_run 1 ≡ items_are.State []
      ∷ items_are.Diff (record { joins = (dot 1, row_of 1 here None) ∷ []; leaves = [] }) ∷ []
  pub update_replaces : outcomes updated_run ≡ outcomes_are.Subscribed 1 ∷ outcomes_are.Added (dot 1)
      ∷ outcomes_are.Taken true 1 ∷ outcomes_are.Replaced (dot 2) (dot 1) ∷ []
  pub update_shows : listed updated_run room ≡ (dot 2, row_of 1 away (Some (dot 1))) ∷ []
  pub update_waits : queue updated_run 1 ≡ Queued
      (items_are.Diff
      (record { joins = (dot 2, row_of 1 away (Some (dot 1))) ∷ []; leaves = (dot 1, row_of 1 here None) ∷ [] }) ∷ [])
  pub second_track : outcomes tracked_twice ≡ outcomes_are.Added (dot 1) ∷ outcomes_are.AlreadyTracked ∷ []
  pub removal_counts : outcomes tracked_again ≡ outcomes_are.Added (dot 1) ∷ outcomes_are.Removed (dot 1 ∷ [])
      ∷ outcomes_are.Added (dot 3) ∷ []
  pub both_present : listed two_pids room ≡ (dot 1, row_of 1 here None) ∷ (dot 2, row_of 2 here None) ∷ []
  pub own_leaves : listed (ran two_pids (untrack 1 ∷ [])) room ≡ (dot 2, row_of 2 here None) ∷ []
  pub empty_removal : outcomes untracked_twice ≡ outcomes_are.Added (dot 1) ∷ outcomes_are.Removed (dot 1 ∷ [])
      ∷ outcomes_are.Removed [] ∷ outcomes_are.Added (dot 3) ∷ []
  pub key_shown : outcomes key_run ≡ outcomes_are.Added (dot 1) ∷ outcomes_are.Added (dot 2)
      ∷ outcomes_are.Added (dot 3) ∷ outcomes_are.Added (dot 4) ∷ outcomes_are.Shown (dot 2 ∷ dot 4 ∷ [])
      ∷ outcomes_are.Shown (dot 3 ∷ []) ∷ []
  pub all_removed : outcomes untracked_all ≡ outcomes_are.Added (dot 1) ∷ outcomes_are.Added (dot 2)
      ∷ outcomes_are.Added (dot 3) ∷ outcomes_are.Added (dot 4) ∷ outcomes_are.Removed (dot 2 ∷ dot 1 ∷ []) ∷ []
  pub others_keep : listed untracked_all room ≡ (dot 4, row_of 2 here None) ∷ []
  pub topics_keep : listed untracked_all attic ≡ (dot 3, row_at attic user 1 here None) ∷ []
  pub ends : outcomes ended_run ≡ outcomes_are.Subscribed 1 ∷ outcomes_are.Taken true 1 ∷ outcomes_are.Ended ∷ []
  pub other_shout : queue shouted_elsewhere 1 ≡ Queued []
  pub state_again : taken caught_up 1 ≡ items_are.State ((dot 1, row_of 1 here None) ∷ []) ∷ []
  pub nothing_waits : queue caught_up 1 ≡ Queued []
  pub just_holds : queue (shouted 256) 1 ≡ Queued (replicate 256 (items_are.Shout null))
  pub falls_behind : queue (shouted 257) 1 ≡ Behind

-- Rebirths.

-- so many dots of a replica, from count n on
abbrev pub dots_from : Replica → ℕ → ℕ → List Dot
dots_from r n zero = []
dots_from r n (suc m) = record { replica = r; count = n } ∷ dots_from r (n + 1) m

abbrev pub new_dots_in : List (Dot × Dot) → List Dot
new_dots_in pairs = each (λ p. p.0) pairs

abbrev pub old_dots_in : List (Dot × Dot) → List Dot
old_dots_in pairs = each (λ p. p.1) pairs

-- No row is lost by a rebirth of these pairs of a new and an old dot: each own row that was shown is shown under its new
-- dot, with the old one as the one before it and all else as it was, and no longer under the old one; and what is shown of
-- others is as it was. The new dots are counted from 1, in the order of the old ones.
pub record LosesNoRow (h : History) (e : Entry) (pairs : List (Dot × Dot)) : Type 0 where
  pub counted : new_dots_in pairs ≡ dots_from (own (Then h e)) 1 (length pairs)
  pub ordered : IsStrictlySortedBy dot_cmp (old_dots_in pairs)
  pub all : (d : Dot) (r : Row) → d.replica ≡ own h → shown h d ≡ Some r → has_dot (old_dots_in pairs) d ≡ true
  pub only : (d : Dot) → has_dot (old_dots_in pairs) d ≡ true → d.replica ≡ own h
  pub rows : (d : Dot) → same_replica d.replica (own (Then h e)) ≡ true
      → shown (Then h e) d ≡ row_again (shown h) (lookup (same_dot d) pairs)
  pub hidden : (d : Dot) → same_replica d.replica (own h) ≡ true → shown (Then h e) d ≡ None
  pub others : (d : Dot) → same_replica d.replica (own h) ≡ false → same_replica d.replica (own (Then h e)) ≡ false
      → shown (Then h e) d ≡ shown h d

abbrev pub RebirthLosesNoRow : Type 0
RebirthLosesNoRow = (h : History) (e : Entry) (pairs : List (Dot × Dot)) → IsLegal (Then h e)
    → e.outcome ≡ outcomes_are.Reborn pairs → LosesNoRow h e pairs
