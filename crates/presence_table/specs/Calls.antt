-- What a call of a shard answers and leaves, read from the plain table of the history before it.
use Rattle.std.specs.Prelude.{◌≡◌, ◌⊎◌, ℕ, ◌+◌, ◌^◌, Bool, cond, ◌&&◌, ◌||◌, nat_eq, nat_le, is_some, Option, Some, None, Result, Ok, Err}
use Rattle.presence_journal.specs.declared.step.Step.TheVariants as steps_are
use Rattle.presence_journal.specs.declared.entry.Outcome.TheVariants as outcomes_are
use Rattle.presence_journal.specs.declared.journal.TheConstants.{MAX_ENTRIES}
use Rattle.presence_journal.specs.declared.step.Step.{Step}
use Rattle.presence_journal.specs.declared.entry.Outcome.{Outcome}
use Rattle.presence_journal.specs.History.{History, Then}
use Rattle.tracker_shard.specs.declared.fault.ShardFault.{ShardFault}
use Rattle.tracker_shard.specs.declared.fault.ShardFault.TheVariants.{AlreadyTracked, NoPresence, ClockFull, JournalFull, NoSub, BadIncarnation, OutOfMemory}
use Rattle.presence_table.specs.Plain.{Table, outcome_of, table}

-- no entry can follow
abbrev pub is_full : Table → Bool
is_full t = nat_le MAX_ENTRIES t.entries || nat_le (2 ^ 62) t.last

-- why the table has nothing for a step whose subscriber is there
abbrev pub cause : Step → ShardFault
cause (steps_are.Rebirth i) = BadIncarnation
cause s = ClockFull

-- the first refusal that stands against a step; `found`: whether the subscriber that it names, if any, is there
abbrev pub refusal : Bool → Table → Step → Option ShardFault
refusal found t s =
    cond found (cond (is_full t) (Some JournalFull) (cond (is_some (outcome_of t s)) None (Some (cause s)))) (Some NoSub)

-- a subscriber is found at slot 0
abbrev pub is_found : Table → ℕ → ℕ → Bool
is_found t slot number = is_some (t.subscribers number) && nat_eq slot 0

-- the history with the step's entry, where the table has an outcome for it
abbrev pub entered : History → Option ℕ → Step → Option Outcome → History
entered h seat s None = h
entered h seat s (Some o) = Then h (record { number = (table h).last + 1; seat = seat; step = s; outcome = o })

-- memory may run out before any refusal but the first two
abbrev pub Refuses : {A : Type 0} → ShardFault → Result A ShardFault → Type 0
Refuses NoSub r = r ≡ Err NoSub
Refuses JournalFull r = r ≡ Err JournalFull
Refuses fault r = (r ≡ Err fault) ⊎ (r ≡ Err OutOfMemory)

-- an answer, or one of the two refusals that are entries too; or memory ran out, and nothing changed
abbrev pub Accepts : {A : Type 0} → (A → Type 0) → Option Outcome → History → History → History → Result A ShardFault → Type 0
Accepts Gives o old next new (Ok x) = Gives x × (new ≡ next)
Accepts Gives o old next new (Err AlreadyTracked) = (o ≡ Some outcomes_are.AlreadyTracked) × (new ≡ next)
Accepts Gives o old next new (Err NoPresence) = (o ≡ Some outcomes_are.NoPresence) × (new ≡ next)
Accepts Gives o old next new (Err OutOfMemory) = new ≡ old
Accepts Gives o old next new (Err fault) = ⊥

abbrev pub Performed : {A : Type 0} → (A → Type 0) → Option ShardFault → Option Outcome → History → History → History
    → Result A ShardFault → Type 0
Performed Gives (Some fault) o old next new r = Refuses fault r × (new ≡ old)
Performed Gives None o old next new r = Accepts Gives o old next new r

-- A call: the first refusal that stands, or the step's entry and what the table gives.
abbrev pub Performs : {A : Type 0} → (Table → A → Type 0) → Bool → History → History → Option ℕ → Step → Result A ShardFault → Type 0
Performs Gives found old new seat s r =
    Performed (Gives (table old)) (refusal found (table old) s) (outcome_of (table old) s)
    old (entered old seat s (outcome_of (table old) s)) new r
