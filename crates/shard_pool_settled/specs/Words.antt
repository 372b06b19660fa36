-- What agreeing receipts and journals are, in words.
use Rattle.std.specs.Prelude.{◌≡◌, ◌+◌, ℕ, List, [], ◌∷◌, Bool, true, false, All, Some, slice_get}
use Rattle.serde_json.specs.Data.{Data, null}
use Rattle.serde_json.specs.Written.{compact_text}
use Rattle.presence_journal.specs.declared.step.Step.{Step}
use Rattle.presence_journal.specs.declared.step.Step.TheVariants as steps_are
use Rattle.presence_journal.specs.declared.entry.Entry.{Entry}
use Rattle.presence_journal.specs.History.{History}
use Rattle.shard_pool_settled.specs.declared.receipt.Receipt.{Receipt}
use Rattle.shard_pool_settled.specs.Seated.{entry_at}
use Rattle.shard_pool_settled.specs.Settled.{seats_told}

-- the meta or payload of a step, null where it has none
abbrev pub value_of : Step → Data
value_of (steps_are.Track pid topic key meta) = meta
value_of (steps_are.Update pid topic key meta) = meta
value_of (steps_are.Shout topic payload) = payload
value_of _ = null

-- the step without it
abbrev pub without_value : Step → Step
without_value (steps_are.Track pid topic key meta) = steps_are.Track pid topic key null
without_value (steps_are.Update pid topic key meta) = steps_are.Update pid topic key null
without_value (steps_are.Shout topic payload) = steps_are.Shout topic null
without_value s = s

-- a merge or a rebirth
abbrev pub is_unlike : Step → Bool
is_unlike (steps_are.Merge told) = true
is_unlike (steps_are.Rebirth incarnation) = true
is_unlike _ = false

-- the steps are equal, their metas and payloads as compact text; a merge and a rebirth, which have no seat, are like no
-- step
pub record AreAlike (a b : Step) : Type 0 where
  pub seated : is_unlike a ≡ false
  pub rest : without_value a ≡ without_value b
  pub text : compact_text (value_of a) ≡ compact_text (value_of b)

-- the entry of the receipt's number at its shard has its seat, step and outcome
pub record Stands (js : List History) (i : ℕ) (r : Receipt) : Type 0 where
  pub journal : History
  pub shard : slice_get js r.shard ≡ Some journal
  pub entry : Entry
  pub number : entry_at journal r.number ≡ Some entry
  pub seat : entry.seat ≡ Some i
  pub step : AreAlike r.step entry.step
  pub outcome : r.outcome ≡ entry.outcome

abbrev pub EachStands : List History → ℕ → List (List Receipt) → Type 0
EachStands js i [] = Unit {0}
EachStands js i (rs ∷ rss) = All (Stands js i) rs × EachStands js (i + 1) rss

abbrev pub ToldStand : Type 0
ToldStand = (js : List History) (rss : List (List Receipt)) → seats_told js 0 rss ≡ true → EachStands js 0 rss

abbrev pub StandingAreTold : Type 0
StandingAreTold = (js : List History) (rss : List (List Receipt)) → EachStands js 0 rss → seats_told js 0 rss ≡ true
