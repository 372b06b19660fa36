-- What a history says of each dot and replica. Every function goes over the entries, the newest outermost.
use Rattle.std.specs.Prelude.{ℕ, ◌+◌, ◌^◌, max, Bool, true, false, cond, not, ◌≡◌, ◌≤◌, ◌&&◌, ◌||◌, nat_lt, nat_le, List, [], ◌∷◌, length, Option, Some, None}
use Rattle.std.specs.List.{list_any}
use Rattle.std.specs.Map.{lookup}
use Rattle.replica_status.specs.declared.standing.Standing.{Standing}
use Rattle.replica_status.specs.declared.status.Status.{Status}
use Rattle.replica_status.specs.declared.status.Status.TheVariants as status_is
use Rattle.replica_status.specs.Table.{status_of, heard_at, ticked_at, put_down}
use Rattle.replica_status.specs.Boards.{standing_in}
use Rattle.presence_base.specs.declared.dots.Replica.{Replica}
use Rattle.presence_base.specs.declared.dots.Dot.{Dot}
use Rattle.presence_base.specs.declared.row.Row.{Row}
use Rattle.presence_base.specs.Order.{same_replica, same_dot}
use Rattle.orswot_core.specs.Telling.{ToldValue, covers, live_row, tells_removed}
use Rattle.delta_range.specs.Keeping.{Kept}
use Rattle.presence_journal.specs.declared.step.Step.TheVariants as steps_are
use Rattle.presence_journal.specs.declared.entry.Outcome.TheVariants as outcomes_are
use Rattle.presence_journal.specs.declared.journal.TheConstants.{MAX_ENTRIES}
use Rattle.presence_journal.specs.Steps.{Step, Outcome, Entry, Start}
pub use Rattle.presence_base.specs.Choices.{first_some}

-- A Start, and then entries
pub data History : Type 0 where
  Begin : (start : Start) → History
  Then : (before : History) (entry : Entry) → History

abbrev pub nothing_told : ToldValue
nothing_told = record { ranges = []; extras = []; live = [] }

abbrev pub nothing_kept : Kept
nothing_kept = record { last = None; short = None; middle = None; long = None }

-- the history of a new shard: nothing came before it
abbrev pub begun : Replica → History
begun r = Begin (record {
  number = 0;
  own = r;
  count = 0;
  content = nothing_told;
  standings = [];
  time = 0;
  last_cut = 0;
  older = [];
  chains = [];
  kept = nothing_kept;
  subscribers = [];
  current = [];
  seated = 0;
})

-- the entries in order, the oldest first, upon a history
abbrev pub onto : History → List Entry → History
onto h [] = h
onto h (e ∷ es) = onto (Then h e) es

abbrev pub start_of : History → Start
start_of (Begin s) = s
start_of (Then h e) = start_of h

abbrev pub newest_first : History → List Entry
newest_first (Begin s) = []
newest_first (Then h e) = e ∷ newest_first h

-- the node of a replica under another incarnation
abbrev pub reborn : Replica → ℕ → Replica
reborn r i = record { name = r.name; incarnation = i }

-- the own replica behind a step: a rebirth gives it another incarnation
abbrev pub own_after : Step → Replica → Replica
own_after (steps_are.Rebirth incarnation) r = reborn r incarnation
own_after _ r = r

-- the replica whose rows are tracked here, and whose counts these use
unfoldable pub own : History → Replica
own (Begin s) = s.own
own (Then h e) = own_after e.step (own h)

-- how many counts an outcome uses beyond those before it: each row that is added or replaced, and each removal, has its own;
-- those of a rebirth begin anew
abbrev pub counts_used : Outcome → ℕ
counts_used (outcomes_are.Added d) = 1
counts_used (outcomes_are.Replaced d old) = 1
counts_used (outcomes_are.Removed (d ∷ ds)) = 1
counts_used _ = 0

-- the last count behind an outcome: a rebirth counts the rows that go on from 1
abbrev pub count_after : Outcome → ℕ → ℕ
count_after (outcomes_are.Reborn pairs) n = length pairs
count_after o n = n + counts_used o

unfoldable pub count : History → ℕ
count (Begin s) = s.count
count (Then h e) = count_after e.outcome (count h)

unfoldable pub last_number : History → ℕ
last_number (Begin s) = s.number
last_number (Then h e) = e.number

-- how many entries there are, the Start among them
unfoldable pub entry_count : History → ℕ
entry_count (Begin s) = 1
entry_count (Then h e) = entry_count h + 1

-- no entry can follow: the journal has its most entries, or its last number is the highest
abbrev pub is_full : History → Bool
is_full h = nat_le MAX_ENTRIES (entry_count h) || nat_le (2 ^ 62) (last_number h)

-- the time that a step hands in, in milliseconds
abbrev pub time_of : Step → ℕ
time_of (steps_are.Heard replica now) = now
time_of (steps_are.Tick now) = now
time_of _ = 0

-- the greatest time handed in so far: a clock that goes back counts as no time passed
unfoldable pub time : History → ℕ
time (Begin s) = s.time
time (Then h e) = max (time h) (time_of e.step)

-- what a step at a time makes of the standing of a replica; a rebirth puts down the one that was the own one
abbrev pub standing_after : Replica → Step → ℕ → Replica → Standing → Standing
standing_after o (steps_are.Heard replica now) t r x = cond (same_replica r replica) (heard_at t x) x
standing_after o (steps_are.Tick now) t r x = ticked_at t x
standing_after o (steps_are.PermDown replica) t r x = cond (same_replica r replica) (put_down x) x
standing_after o (steps_are.Rebirth incarnation) t r x = cond (same_replica r o) (put_down x) x
standing_after o _ t r x = x

-- the standing of another replica
unfoldable pub standing : History → Replica → Standing
standing (Begin s) r = standing_in s.standings r
standing (Then h e) r = standing_after (own h) e.step (max (time h) (time_of e.step)) r (standing h r)

-- the own replica is up
unfoldable pub status : History → Replica → Status
status h r = cond (same_replica r (own h)) status_is.Up (status_of (standing h r))

abbrev pub is_up : Status → Bool
is_up status_is.Up = true
is_up _ = false

abbrev pub is_gone : Status → Bool
is_gone status_is.Gone = true
is_gone _ = false

-- what is told of the own replica is not heard, and nothing that is told of one that is gone
unfoldable pub hears : History → Replica → Bool
hears h r = not (same_replica r (own h)) && not (is_gone (status h r))

-- What a step tells of other replicas after a history: the dots that it covers, the rows that are live there, and the dots
-- that it covers without a row, which were removed.
abbrev pub told_covers : History → Step → Dot → Bool
told_covers h (steps_are.Merge t) d = hears h d.replica && covers t d
told_covers h _ d = false

abbrev pub told_row : History → Step → Dot → Option Row
told_row h (steps_are.Merge t) d = cond (hears h d.replica) (live_row t d) None
told_row h _ d = None

abbrev pub told_removed : History → Step → Dot → Bool
told_removed h (steps_are.Merge t) d = hears h d.replica && tells_removed t d
told_removed h _ d = false

-- the count up to which the last cut told
abbrev pub cut_after : Outcome → ℕ → ℕ
cut_after (outcomes_are.CutAt from to) n = to
cut_after (outcomes_are.Reborn pairs) n = 0
cut_after _ n = n

unfoldable pub last_cut : History → ℕ
last_cut (Begin s) = s.last_cut
last_cut (Then h e) = cut_after e.outcome (last_cut h)

-- the dot of the next count
abbrev pub next_dot : History → Dot
next_dot h = record { replica = own h; count = count h + 1 }

-- a dot of the replica whose count is one of 1 to n
abbrev pub is_counted : Replica → ℕ → Dot → Bool
is_counted r n d = same_replica d.replica r && (nat_lt 0 d.count && nat_le d.count n)

-- the dots that a Start covers, the own dots that were counted, and those of others that were told
unfoldable pub known : History → Dot → Bool
known (Begin s) d = covers s.content d
known (Then h e) d = known h d || (is_counted (own (Then h e)) (count (Then h e)) d || told_covers h e.step d)

-- of a replica that is gone only its name is kept
abbrev pub covered : History → Dot → Bool
covered h d = known h d && not (is_gone (status h d.replica))

-- a told value covers a dot of the replica
abbrev pub tells_of : Replica → ToldValue → Bool
tells_of r t = list_any (λ g. same_replica r g.0 && nat_lt g.1 g.2) t.ranges
    || list_any (λ d. same_replica r d.replica) t.extras

abbrev pub told_of : History → Step → Replica → Bool
told_of h (steps_are.Merge t) r = hears h r && tells_of r t
told_of h _ r = false

-- some dot of the replica is known
unfoldable pub has_dots : History → Replica → Bool
has_dots (Begin s) r = tells_of r s.content
has_dots (Then h e) r = has_dots h r
    || ((same_replica r (own (Then h e)) && nat_lt 0 (count (Then h e))) || told_of h e.step r)

-- all counts of the replica up to this one are covered, and the next one is not
pub record IsTop (h : History) (r : Replica) (n : ℕ) : Type 0 where
  pub below : (m : ℕ) → 1 ≤ m → m ≤ n → covered h (record { replica = r; count = m }) ≡ true
  pub next : covered h (record { replica = r; count = n + 1 }) ≡ false

abbrev pub has_dot : List Dot → Dot → Bool
has_dot ds d = list_any (same_dot d) ds

-- the row that a step makes, which replaces the row of `prev`
abbrev pub row_made : Step → Option Dot → Option Row
row_made (steps_are.Track pid topic key meta) prev =
    Some (record { topic = topic; key = key; pid = pid; meta = meta; prev = prev })
row_made (steps_are.Update pid topic key meta) prev =
    Some (record { topic = topic; key = key; pid = pid; meta = meta; prev = prev })
row_made _ prev = None

-- the row that an entry adds under a dot
abbrev pub row_added : Step → Outcome → Dot → Option Row
row_added s (outcomes_are.Added new) d = cond (same_dot d new) (row_made s None) None
row_added s (outcomes_are.Replaced new old) d = cond (same_dot d new) (row_made s (Some old)) None
row_added s _ d = None

-- the dots that an outcome takes rows from; `next` is a removal's own count
abbrev pub dot_removed : Outcome → Dot → Dot → Bool
dot_removed (outcomes_are.Replaced new old) next d = same_dot d old
dot_removed (outcomes_are.Removed (x ∷ xs)) next d = same_dot d next || has_dot (x ∷ xs) d
dot_removed _ next d = false

-- what a Start covers without a live row went before it
unfoldable pub removed : History → Dot → Bool
removed (Begin s) d = tells_removed s.content d
removed (Then h e) d = removed h d || (dot_removed e.outcome (next_dot h) d || told_removed h e.step d)

-- the row with the dot that it stood under before
abbrev pub with_prev : Dot → Option Row → Option Row
with_prev old None = None
with_prev old (Some r) = Some (record { topic = r.topic; key = r.key; pid = r.pid; meta = r.meta; prev = Some old })

abbrev pub row_again : (Dot → Option Row) → Option Dot → Option Row
row_again rows None = None
row_again rows (Some old) = with_prev old (rows old)

-- the row that is told of another replica; in a rebirth the own row that goes on under the dot
abbrev pub row_brought : Outcome → (Dot → Option Row) → Option Row → Dot → Option Row
row_brought (outcomes_are.Reborn pairs) rows told d = row_again rows (lookup (same_dot d) pairs)
row_brought _ rows told d = told

-- the row in the first entry that adds the dot, the live rows of a Start among them
unfoldable pub row : History → Dot → Option Row
row (Begin s) d = live_row s.content d
row (Then h e) d =
    first_some (row h d) (first_some (row_added e.step e.outcome d) (row_brought e.outcome (row h) (told_row h e.step d) d))

-- the row, where it is not removed
unfoldable pub live : History → Dot → Option Row
live h d = cond (removed h d) None (row h d)

-- the live row, where its replica is up
unfoldable pub shown : History → Dot → Option Row
shown h d = cond (is_up (status h d.replica)) (live h d) None
