-- That each call of a shard but the cut, whose delta the table doesn't have, does what the plain table says of it.
use Rattle.std.specs.Prelude.{◌≡◌, ℕ, ◌+◌, Bool, true, List, Option, Some, Result, Vec}
use Rattle.std.specs.Global.{Global}
use Rattle.serde_json.specs.Data.{Data}
use Rattle.presence_base.specs.declared.dots.Replica.{Replica}
use Rattle.presence_base.specs.declared.dots.Dot.{Dot}
use Rattle.presence_base.specs.declared.row.Row.{Row}
use Rattle.orswot_core.specs.Telling.{ToldValue}
use Rattle.presence_journal.specs.declared.step.Step.TheVariants as steps_are
use Rattle.presence_journal.specs.declared.entry.Outcome.TheVariants as outcomes_are
use Rattle.presence_journal.specs.declared.rows.Item.{Item}
use Rattle.presence_journal.specs.declared.step.Step.{Step}
use Rattle.presence_journal.specs.History.{History, last_number}
use Rattle.presence_journal.specs.Present as rooms
use Rattle.presence_journal.specs.Queue.{items_given}
use Rattle.presence_journal.specs.Table as steps
use Rattle.tracker_shard.specs.declared.shard.Sub.{Sub}
use Rattle.tracker_shard.specs.declared.fault.ShardFault.{ShardFault}
use Rattle.tracker_shard.specs.Calls.{always, finds}
use Rattle.tracker_shard.specs.Steps as shard
use Rattle.presence_table.specs.Plain.{Table, table, next_dot, outcome_of, dots_of, mine, under, listed, given}
use Rattle.presence_table.specs.Calls.{is_found, Performs}

-- what a shard keeps, and the contract of a call says, of the history before it and behind it
pub record Promised {A : Type 0} (Says : A → Type 0) (found : Bool) (old new : History) (seat : Option ℕ) (s : Step)
    (r : Result A ShardFault) : Type 0 where
  pub legal : steps.IsLegal old
  pub step : shard.Stepped old new seat s r
  pub answer : shard.Answers Says (steps.outcome_of old s) r
  pub due : shard.IsDue r (shard.refusal found old s)

-- it performs the step, where what it gives is what the plain table gives
abbrev pub Keeps : {A : Type 0} → (History → A → Type 0) → (Table → A → Type 0) → (History → Bool) → (Table → Bool) → Step → Type 0
Keeps {A} Says Gives there is_there s = (old new : History) (seat : Option ℕ) (r : Result A ShardFault)
    → Promised (Says old) (there old) old new seat s r
    → Performs Gives (is_there (table old)) old new seat s r

abbrev pub here : Table → Bool
here t = true

abbrev pub nothing : {X : Type 0} → X → Unit {0} → Type 0
nothing x _ = Unit {0}

-- where no subscriber is named
abbrev pub KeepsHere : {A : Type 0} → (History → A → Type 0) → (Table → A → Type 0) → Step → Type 0
KeepsHere Says Gives s = Keeps Says Gives always here s

-- a row is made, and its dot is the next one
abbrev pub KeepsDot : Step → Type 0
KeepsDot s = KeepsHere {A = Dot} (λ h d. shard.new_dot (steps.outcome_of h s) ≡ Some d)
    (λ t d. (shard.new_dot (outcome_of t s) ≡ Some d) × (d ≡ next_dot t)) s

abbrev pub KeepsNothing : Step → Type 0
KeepsNothing s = KeepsHere {A = Unit {0}} nothing nothing s

pub record CallsArePlain : Type 0 where
  pub track : (pid : ℕ) (topic key : List ℕ) (meta : Data) → KeepsDot (steps_are.Track pid topic key meta)
  pub update : (pid : ℕ) (topic key : List ℕ) (meta : Data) → KeepsDot (steps_are.Update pid topic key meta)
  pub untrack : (pid : ℕ) (topic key : List ℕ)
      → KeepsHere {A = Vec Dot Global} (λ h ds. ds.items ≡ rooms.dots_of (steps.rows_of_key h pid topic key))
      (λ t ds. ds.items ≡ dots_of (under key (mine t pid topic))) (steps_are.Untrack pid topic key)
  pub untrack_all : (pid : ℕ) (topic : List ℕ)
      → KeepsHere {A = Vec Dot Global} (λ h ds. ds.items ≡ rooms.dots_of (steps.rows_of_pid h pid topic))
      (λ t ds. ds.items ≡ dots_of (mine t pid topic)) (steps_are.UntrackAll pid topic)
  pub list : (topic : List ℕ)
      → KeepsHere {A = List (Dot × Row)} (λ h rows. rows ≡ rooms.listed h topic) (λ t rows. rows ≡ listed t topic)
      (steps_are.List topic)
  pub get : (topic key : List ℕ)
      → KeepsHere {A = Vec (Dot × Row) Global} (λ h rows. rows.items ≡ steps.listed_key h topic key)
      (λ t rows. rows.items ≡ under key (listed t topic)) (steps_are.Get topic key)
  pub subscribe : (topic : List ℕ)
      → KeepsHere {A = Sub} (λ h sub. (sub.number ≡ last_number h + 1) × (sub.slot ≡ 0))
      (λ t sub. (sub.number ≡ t.last + 1) × (sub.slot ≡ 0)) (steps_are.Subscribe topic)
  pub take : (sub : Sub) (max : ℕ)
      → Keeps {A = Vec Item Global} (λ h items. items.items ≡ items_given h sub.number max)
      (λ t items. items.items ≡ given t sub.number max) (finds sub) (λ t. is_found t sub.slot sub.number)
      (steps_are.Take sub.number max)
  pub unsubscribe : (sub : Sub)
      → Keeps {A = Unit {0}} nothing nothing (finds sub) (λ t. is_found t sub.slot sub.number)
      (steps_are.Unsubscribe sub.number)
  pub shout : (topic : List ℕ) (payload : Data) → KeepsNothing (steps_are.Shout topic payload)
  pub heard : (replica : Replica) (now : ℕ) → KeepsNothing (steps_are.Heard replica now)
  pub tick : (now : ℕ) → KeepsNothing (steps_are.Tick now)
  pub permdown : (replica : Replica) → KeepsNothing (steps_are.PermDown replica)
  pub merge : (told : ToldValue) → KeepsNothing (steps_are.Merge told)
  pub rebirth : (i : ℕ)
      → KeepsHere {A = List (Dot × Dot)} (λ h pairs. steps.outcome_of h (steps_are.Rebirth i) ≡ Some (outcomes_are.Reborn pairs))
      (λ t pairs. outcome_of t (steps_are.Rebirth i) ≡ Some (outcomes_are.Reborn pairs)) (steps_are.Rebirth i)
