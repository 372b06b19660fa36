-- Laws of what is known, live and shown, and of what other nodes tell.
use Rattle.std.specs.Prelude.{◌≡◌, Bool, true, false, cond, ◌&&◌, ◌||◌, Option, Some, None}
use Rattle.presence_base.specs.declared.dots.Dot.{Dot}
use Rattle.presence_base.specs.declared.row.Row.{Row}
use Rattle.orswot_core.specs.Telling.{ToldValue, covers, live_row}
use Rattle.presence_journal.specs.declared.step.Step.TheVariants as steps_are
use Rattle.presence_journal.specs.Steps.{Step, Entry}
use Rattle.presence_journal.specs.History.{History, Then, own, count, status, hears, told_covers, known, has_dot, removed, row, live, shown}
use Rattle.presence_journal.specs.Present.{dots_added, dots_taken}
use Rattle.presence_journal.specs.Table.{IsLegal}

-- a dot that was removed is known
abbrev pub RemovedIsKnown : Type 0
RemovedIsKnown = (h : History) → IsLegal h → (d : Dot) → removed h d ≡ true → known h d ≡ true

-- a known dot without a live row was removed
abbrev pub KnownIsLiveOrRemoved : Type 0
KnownIsLiveOrRemoved = (h : History) → IsLegal h → (d : Dot) → known h d ≡ true → live h d ≡ None → removed h d ≡ true

-- The live row of a dot once something is told of it, by the row that was live, whether the dot was known, the row that is
-- told live and whether what is told covers the dot. A known dot's row never comes back (Bieniusa et al., 2012).
abbrev pub row_taken_in : Option Row → Bool → Option Row → Bool → Option Row
row_taken_in (Some r) is_known (Some s) is_covered = Some r
row_taken_in (Some r) is_known None is_covered = cond is_covered None (Some r)
row_taken_in None is_known (Some s) is_covered = cond is_known None (Some s)
row_taken_in None is_known None is_covered = None

-- what a merge makes known: what is told of the replicas that are heard
abbrev pub MergeIsKnown : Type 0
MergeIsKnown = (h : History) (e : Entry) → IsLegal (Then h e) → (t : ToldValue) → e.step ≡ steps_are.Merge t
    → (d : Dot) → known (Then h e) d ≡ (known h d || (hears h d.replica && covers t d))

-- and what it makes live
abbrev pub MergeIsLive : Type 0
MergeIsLive = (h : History) (e : Entry) → IsLegal (Then h e) → (t : ToldValue) → e.step ≡ steps_are.Merge t → (d : Dot)
    → live (Then h e) d
    ≡ cond (hears h d.replica) (row_taken_in (live h d) (known h d) (live_row t d) (covers t d)) (live h d)

-- the dots whose rows an entry adds, takes out or tells
abbrev pub touches : History → Entry → Dot → Bool
touches h e d = has_dot (dots_added e.outcome) d || (has_dot (dots_taken e.outcome) d || told_covers h e.step d)

-- of any other dot the same is live
abbrev pub LiveStays : Type 0
LiveStays = (h : History) (e : Entry) → IsLegal (Then h e) → (d : Dot) → touches h e d ≡ false
    → live (Then h e) d ≡ live h d

-- and the same is shown, where its replica keeps its status
abbrev pub ShownStays : Type 0
ShownStays = (h : History) (e : Entry) → IsLegal (Then h e) → (d : Dot) → touches h e d ≡ false
    → status (Then h e) d.replica ≡ status h d.replica → shown (Then h e) d ≡ shown h d

-- the steps that may change own rows
abbrev pub is_of_rows : Step → Bool
is_of_rows (steps_are.Track pid topic key meta) = true
is_of_rows (steps_are.Update pid topic key meta) = true
is_of_rows (steps_are.Untrack pid topic key) = true
is_of_rows (steps_are.UntrackAll pid topic) = true
is_of_rows (steps_are.Rebirth incarnation) = true
is_of_rows _ = false

-- what a history says of an own dot
pub record SameOwn (g h : History) (d : Dot) : Type 0 where
  pub known : known g d ≡ known h d
  pub removed : removed g d ≡ removed h d
  pub row : row g d ≡ row h d
  pub live : live g d ≡ live h d

-- no other step, a merge among them, changes the own count or what is known of an own dot
abbrev pub OwnStepsAlone : Type 0
OwnStepsAlone = (h : History) (e : Entry) → IsLegal (Then h e) → is_of_rows e.step ≡ false
    → (count (Then h e) ≡ count h) × ((d : Dot) → d.replica ≡ own h → SameOwn (Then h e) h d)
