-- What was told of the dots of other replicas, and which of them an entry shows or hides.
use Rattle.std.specs.Prelude.{ℕ, Bool, false, cond, not, ◌&&◌, ◌||◌, List, [], Option, Some, None}
use Rattle.std.specs.List.{list_any}
use Rattle.presence_base.specs.declared.dots.Dot.{Dot}
use Rattle.presence_base.specs.declared.row.Row.{Row}
use Rattle.std.specs.Map.{lookup}
use Rattle.presence_base.specs.Order.{same_text, same_replica, same_dot}
use Rattle.orswot_core.specs.Telling.{live_row, tells_removed}
use Rattle.presence_journal.specs.declared.step.Step.TheVariants as steps_are
use Rattle.presence_journal.specs.declared.entry.Outcome.TheVariants as outcomes_are
use Rattle.presence_journal.specs.declared.step.Step.{Step}
use Rattle.presence_journal.specs.declared.entry.Outcome.{Outcome}
use Rattle.presence_journal.specs.declared.entry.Start.{Start}
use Rattle.presence_journal.specs.History.{History, Begin, Then, first_some, row_added, told_row, told_removed, is_up, status}

-- the row of a Start, where the dot is of another replica
abbrev pub row_kept : Start → Dot → Option Row
row_kept s d = cond (same_replica d.replica s.own) None (live_row s.content d)

-- the row that was told first of a dot
unfoldable pub first_told : History → Dot → Option Row
first_told (Begin s) d = row_kept s d
first_told (Then h e) d = first_some (first_told h d) (told_row h e.step d)

-- the dot was told as removed
unfoldable pub was_told_removed : History → Dot → Bool
was_told_removed (Begin s) d = tells_removed s.content d
was_told_removed (Then h e) d = was_told_removed h d || told_removed h e.step d

abbrev pub topic_in : Option Row → Option (List ℕ)
topic_in None = None
topic_in (Some r) = Some r.topic

abbrev pub is_topic : List ℕ → Option (List ℕ) → Bool
is_topic t None = false
is_topic t (Some u) = same_text u t

-- a row that was told of the dot is shown on the topic
abbrev pub shows_told : History → List ℕ → Dot → Bool
shows_told h t d = is_topic t (topic_in (first_told h d)) && (is_up (status h d.replica) && not (was_told_removed h d))

-- it is so in one of two histories alone
abbrev pub differs : History → History → List ℕ → Dot → Bool
differs g h t d = cond (shows_told g t d) (not (shows_told h t d)) (shows_told h t d)

-- the topic of an own row, from its newest entry back: the row of a dot that a rebirth gave stood under the old one before

abbrev pub topic_again : (Dot → Option (List ℕ)) → Option Dot → Option (List ℕ)
topic_again f None = None
topic_again f (Some old) = f old

abbrev pub dot_before : Outcome → Dot → Option Dot
dot_before (outcomes_are.Reborn pairs) d = lookup (same_dot d) pairs
dot_before _ d = Some d

unfoldable pub topic_back : History → Dot → Option (List ℕ)
topic_back (Begin s) d = topic_in (live_row s.content d)
topic_back (Then h e) d =
    first_some (topic_in (row_added e.step e.outcome d)) (topic_again (topic_back h) (dot_before e.outcome d))

-- the topic of the row that a step makes
abbrev pub topic_made : Step → Option (List ℕ)
topic_made (steps_are.Track pid topic key meta) = Some topic
topic_made (steps_are.Update pid topic key meta) = Some topic
topic_made _ = None

-- a row of the topic goes on under a new dot
abbrev pub any_again : History → List ℕ → List (Dot × Dot) → Bool
any_again h t ps = list_any (λ p. is_topic t (topic_back h p.1)) ps

abbrev pub goes_on : History → List ℕ → Outcome → Bool
goes_on h t (outcomes_are.Reborn pairs) = any_again h t pairs
goes_on h t _ = false

-- the rows that a step tells
abbrev pub rows_told : Step → List (Dot × Row)
rows_told (steps_are.Merge t) = t.live
rows_told _ = []

-- p is so of a dot of one of these rows
abbrev pub any_of : (Dot → Bool) → List (Dot × Row) → Bool
any_of p xs = list_any (λ x. p x.0) xs

-- p is so of a dot of which a row was told, or kept by the Start
unfoldable pub any_told : (Dot → Bool) → History → Bool
any_told p (Begin s) = any_of p s.content.live
any_told p (Then h e) = any_told p h || any_of p (rows_told e.step)

-- a dot of which the step tells a row differs
abbrev pub any_differs : History → History → List ℕ → Step → Bool
any_differs g h t s = any_of (differs g h t) (rows_told s)

-- a row that was told is shown on the topic in one of two histories alone, of which h is the later
abbrev pub changes_on : History → History → List ℕ → Bool
changes_on g h t = any_told (differs g h t) h
