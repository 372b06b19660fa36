-- A port over a pool and a seat: the call of the pool that each question of a session is.
use Rattle.std.specs.Prelude.{◌≡◌, ℕ, Bool, List, Option, Some, None, Result, Ok, Err}
use Rattle.presence_journal.specs.declared.step.Step.{Step}
use Rattle.presence_journal.specs.History.{History}
use Rattle.tracker_shard.specs.declared.fault.ShardFault.{ShardFault}
use Rattle.channel_rules.specs.Asks.{Ask, Answer}
use Rattle.channel_rules.specs.Seen.{FromTable}
use Rattle.channel_rules.specs.Shards.{there_of, topic_asked, step_of, gives_of, TellsNow}
use Rattle.channel_rules.specs.declared.refusal.Refusal.{Refusal}
use Rattle.channel_rules.specs.declared.refusal.Refusal.TheVariants.{Table}
use Rattle.shard_pool.specs.declared.reply.Reply.{Reply}
use Rattle.shard_pool.specs.Unseated.{IsBehindOf}
use Rattle.shard_pool.specs.Seats.{Hands, CalledAt, shard_of}

-- the value of a reply, or the refusal
abbrev pub value_of : {A : Type 0} → Result (Reply A) ShardFault → Result A Refusal
value_of (Ok reply) = Ok reply.value
value_of (Err fault) = Err (Table fault)

-- the pool is the same, and the seat that is lent
abbrev pub Keeps : {P N : Type 0} → P → P → N → N → Type 0
Keeps old_pool new_pool old_seat new_seat = (new_pool ≡ old_pool) × (new_seat ≡ old_seat)

-- The pool made its call of this step at the topic's shard, through the seat: some legal history of that shard
-- stands behind the reply. `here` tells which histories are those of a shard's number. The answer is the reply's value.
pub record Asked {A : Type 0} (here : ℕ → History → Type 0) (there : History → Bool) (shards : ℕ) (old new : Hands) (topic : List ℕ)
    (step : Step) (Gives : History → A → Type 0) (answer : Result A Refusal) : Type 0 where
  pub reply : Result (Reply A) ShardFault
  pub called : CalledAt here there old new (shard_of topic shards) step Gives reply
  pub told : answer ≡ value_of reply

-- To ask what makes no step is no call: some legal history of the topic's shard stands behind the answer, and the seat is
-- as it was.
abbrev pub AskedOr : {A : Type 0} → (ℕ → History → Type 0) → (History → Bool) → ℕ → Hands → Hands → List ℕ → Option Step
    → (History → A → Type 0) → Result A Refusal → Type 0
AskedOr here there n old new topic (Some step) Gives a = Asked here there n old new topic step Gives a
AskedOr here there n old new topic None Gives a =
    (new ≡ old) × IsBehindOf (here (shard_of topic n)) (λ h. FromTable (TellsNow (there h) (Gives h)) a)

-- From the one seat to the other this was asked of the pool, by the session of this number, and this answered.
abbrev pub PoolStep : (ℕ → History → Type 0) → ℕ → ℕ → Hands → (q : Ask) → Answer q → Hands → Type 0
PoolStep here n pid old q a new =
    AskedOr here (there_of q) n old new (topic_asked q) (step_of pid q) (gives_of pid q) a
