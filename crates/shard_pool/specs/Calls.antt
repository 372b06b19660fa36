-- What each call of a seat does at the shard of its topic. `Here` tells which histories are those of a shard's number.
use Rattle.std.specs.Prelude.{◌≡◌, ◌+◌, ℕ, List, Some, Result, Vec}
use Rattle.std.specs.Global.{Global}
use Rattle.serde_json.specs.Data.{Data}
use Rattle.presence_base.specs.declared.dots.Dot.{Dot}
use Rattle.presence_base.specs.declared.row.Row.{Row}
use Rattle.presence_journal.specs.declared.rows.Item.{Item}
use Rattle.presence_journal.specs.declared.step.Step.{Step}
use Rattle.presence_journal.specs.declared.step.Step.TheVariants as steps_are
use Rattle.presence_journal.specs.History.{History, last_number}
use Rattle.presence_journal.specs.Present.{listed, dots_of}
use Rattle.presence_journal.specs.Queue.{items_given}
use Rattle.presence_journal.specs.Table.{outcome_of, rows_of_key, rows_of_pid, listed_key}
use Rattle.tracker_shard.specs.declared.fault.ShardFault.{ShardFault}
use Rattle.tracker_shard.specs.declared.shard.Sub.{Sub}
use Rattle.shard_pool.specs.declared.reply.Reply.{Reply}
use Rattle.tracker_shard.specs.Steps.{new_dot, slot_of}
use Rattle.shard_pool.specs.Seated.{always, finds}
use Rattle.shard_pool.specs.Seats.{Hands, CalledAt, shard_of}

-- a step about a topic whose outcome names the new dot that is answered
abbrev pub AnswersDot : (ℕ → History → Type 0) → ℕ → Hands → Hands → List ℕ → Step → Result (Reply Dot) ShardFault → Type 0
AnswersDot Here shards old new t step r =
    CalledAt Here always old new (shard_of t shards) step (λ h d. new_dot (outcome_of h step) ≡ Some d) r

-- a track, with the dot of the new row
abbrev pub Tracks : (ℕ → History → Type 0) → ℕ → Hands → Hands → ℕ → List ℕ → List ℕ → Data → Result (Reply Dot) ShardFault
    → Type 0
Tracks Here shards old new pid t key meta r = AnswersDot Here shards old new t (steps_are.Track pid t key meta) r

-- an update, with the dot of the new row
abbrev pub Updates : (ℕ → History → Type 0) → ℕ → Hands → Hands → ℕ → List ℕ → List ℕ → Data → Result (Reply Dot) ShardFault
    → Type 0
Updates Here shards old new pid t key meta r = AnswersDot Here shards old new t (steps_are.Update pid t key meta) r

-- an untrack, with the dots of the pid's rows under the key
abbrev pub Untracks : (ℕ → History → Type 0) → ℕ → Hands → Hands → ℕ → List ℕ → List ℕ
    → Result (Reply (Vec Dot Global)) ShardFault → Type 0
Untracks Here shards old new pid t key r = CalledAt Here always old new (shard_of t shards) (steps_are.Untrack pid t key)
    (λ h dots. dots.items ≡ dots_of (rows_of_key h pid t key)) r

-- an untrack of all keys, with the dots of the pid's rows
abbrev pub UntracksAll : (ℕ → History → Type 0) → ℕ → Hands → Hands → ℕ → List ℕ
    → Result (Reply (Vec Dot Global)) ShardFault → Type 0
UntracksAll Here shards old new pid t r = CalledAt Here always old new (shard_of t shards) (steps_are.UntrackAll pid t)
    (λ h dots. dots.items ≡ dots_of (rows_of_pid h pid t)) r

-- a list, with the topic's rows
abbrev pub Lists : (ℕ → History → Type 0) → ℕ → Hands → Hands → List ℕ → Result (Reply (List (Dot × Row))) ShardFault → Type 0
Lists Here shards old new t r =
    CalledAt Here always old new (shard_of t shards) (steps_are.List t) (λ h rows. rows ≡ listed h t) r

-- a get, with the rows under the key
abbrev pub Fetches : (ℕ → History → Type 0) → ℕ → Hands → Hands → List ℕ → List ℕ
    → Result (Reply (Vec (Dot × Row) Global)) ShardFault → Type 0
Fetches Here shards old new t key r =
    CalledAt Here always old new (shard_of t shards) (steps_are.Get t key) (λ h rows. rows.items ≡ listed_key h t key) r

-- a subscribe, with the new subscriber
abbrev pub Subscribes : (ℕ → History → Type 0) → ℕ → Hands → Hands → List ℕ → Result (Reply Sub) ShardFault → Type 0
Subscribes Here shards old new t r = CalledAt Here always old new (shard_of t shards) (steps_are.Subscribe t)
    (λ h sub. (sub.number ≡ last_number h + 1) × (sub.slot ≡ slot_of sub.number)) r

-- a take, with what is given of the items that wait
abbrev pub Takes : (ℕ → History → Type 0) → ℕ → Hands → Hands → List ℕ → Sub → ℕ
    → Result (Reply (Vec Item Global)) ShardFault → Type 0
Takes Here shards old new t sub max r = CalledAt Here (finds sub) old new (shard_of t shards) (steps_are.Take sub.number max)
    (λ h items. items.items ≡ items_given h sub.number max) r

-- the end of a subscriber
abbrev pub Unsubscribes : (ℕ → History → Type 0) → ℕ → Hands → Hands → List ℕ → Sub → Result (Reply (Unit {0})) ShardFault
    → Type 0
Unsubscribes Here shards old new t sub r =
    CalledAt Here (finds sub) old new (shard_of t shards) (steps_are.Unsubscribe sub.number) (λ h _. Unit {0}) r

-- a shout
abbrev pub Shouts : (ℕ → History → Type 0) → ℕ → Hands → Hands → List ℕ → Data → Result (Reply (Unit {0})) ShardFault → Type 0
Shouts Here shards old new t payload r =
    CalledAt Here always old new (shard_of t shards) (steps_are.Shout t payload) (λ h _. Unit {0}) r
