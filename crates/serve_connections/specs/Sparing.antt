-- How a delivery takes no further item once so many bytes wait for its connection.
use Rattle.std.specs.Prelude.{◌≡◌, ◌⊎◌, ◌-◌, ◌==◌, ℕ, Bool, true, false, length, List, [], ◌∷◌, Result, Ok, Err}
use Rattle.serde_json.specs.Written.{compact_text}
use Rattle.presence_metas.specs.Values.{state_of, diff_of}
use Rattle.presence_journal.specs.declared.rows.Item.{Item}
use Rattle.presence_journal.specs.declared.rows.Item.TheVariants.{State, Diff, Shout}
use Rattle.channel_rules.specs.Asks.{Ask, Answer, take, waits}
use Rattle.channel_rules.specs.declared.refusal.Refusal.{Refusal}
use Rattle.tracker_shard.specs.declared.shard.Sub.{Sub}
use Rattle.serve_connections.specs.declared.sparing.TheConstants.{MAX_UNSENT}

-- How many bytes an item counts: those of the text of what it tells. A state whose text isn't written counts as all that a delivery takes.
abbrev pub Weighs : Item → ℕ → Type 0
Weighs (State rows) n = (n ≡ length (compact_text (state_of rows))) ⊎ (n ≡ MAX_UNSENT)
Weighs (Diff diff) n = n ≡ length (compact_text (diff_of diff.joins diff.leaves))
Weighs (Shout sent) n = n ≡ length (compact_text sent)

-- what these items leave of so much room
abbrev pub Leaves : List Item → ℕ → ℕ → Type 0
Leaves [] room left = left ≡ room
Leaves (item ∷ items) room left = (n : ℕ) × Weighs item n × Leaves items (room - n) left

abbrev pub LeavesOf : Result (List Item) Refusal → ℕ → ℕ → Type 0
LeavesOf (Ok items) room left = Leaves items room left
LeavesOf (Err fault) room left = left ≡ room

module _ {P : Type 0} (step : P → (q : Ask) → Answer q → P → Type 0) where
  -- Once there is no room nothing is said to wait, and the port isn't asked.
  abbrev pub SparesWaits : Bool → List ℕ → Sub → P → Result Bool Refusal → P → Type 0
  SparesWaits true topic sub old a new = (a ≡ Ok false) × (new ≡ old)
  SparesWaits false topic sub old a new = step old (waits topic sub) a new

  -- The port is asked as a session asks it, and what is taken of it takes of the room.
  abbrev pub Spares : P × ℕ → (q : Ask) → Answer q → P × ℕ → Type 0
  Spares old (waits topic sub) a new = SparesWaits (old.1 == 0) topic sub old.0 a new.0 × (new.1 ≡ old.1)
  Spares old (take topic sub max) a new = step old.0 (take topic sub max) a new.0 × LeavesOf a old.1 new.1
  Spares old q a new = step old.0 q a new.0 × (new.1 ≡ old.1)
