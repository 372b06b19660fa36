-- What a call of a seat does to its part and to the shard that is lent to it.
use Rattle.std.specs.Prelude.{◌≡◌, ◌⊎◌, ◌+◌, ℕ, Bool, true, false, Some, None, Result, Ok, Err}
use Rattle.presence_base.specs.declared.dots.Dot.{Dot}
use Rattle.presence_journal.specs.declared.step.Step.{Step}
use Rattle.presence_journal.specs.declared.entry.Outcome.{Outcome}
use Rattle.presence_journal.specs.History.{History, last_number}
use Rattle.presence_journal.specs.Queue.{AllAreBehind}
use Rattle.presence_journal.specs.Table.{IsLegal, outcome_of}
use Rattle.tracker_shard.specs.declared.fault.ShardFault.{ShardFault}
use Rattle.tracker_shard.specs.declared.fault.ShardFault.TheVariants.{AlreadyTracked, NoPresence, ClockFull, JournalFull, NoSub, BadIncarnation, OutOfMemory}
use Rattle.tracker_index.specs.Starting.{IsBegunAgain}
use Rattle.tracker_shard.specs.Steps.{Answers, IsDue, Stepped, new_dot, refusal}
use Rattle.shard_pool.specs.declared.lack.Lack.{Lack}
use Rattle.shard_pool.specs.declared.lack.Lack.TheVariants as lacks
use Rattle.shard_pool.specs.declared.reply.Reply.{Reply}
use Rattle.shard_pool.specs.Hands.{Hand, receipt, with_call}

-- the answer stands for a step that was made: accepted calls, and those that the table itself refuses
abbrev pub is_step : {A : Type 0} → Result A ShardFault → Bool
is_step (Ok x) = true
is_step (Err AlreadyTracked) = true
is_step (Err NoPresence) = true
is_step (Err ClockFull) = false
is_step (Err JournalFull) = false
is_step (Err NoSub) = false
is_step (Err BadIncarnation) = false
is_step (Err OutOfMemory) = false

-- one more where the step was made
abbrev pub counted : ℕ → Bool → ℕ
counted n true = n + 1
counted n false = n

-- the receipt of the step at the history's end, with the table's outcome
pub record Noted (h : History) (old new : Hand) (step : Step) : Type 0 where
  pub outcome : Outcome
  pub table : outcome_of h step ≡ Some outcome
  pub hand : new ≡ with_call old (receipt old.shard (last_number h + 1) step outcome)

abbrev pub NotedIf : Bool → History → Hand → Hand → Step → Type 0
NotedIf true h old new step = Noted h old new step
NotedIf false h old new step = new ≡ old

-- where the step was made the part has its receipt and counts it, and else it is as it was
abbrev pub Notes : {A : Type 0} → History → Hand → Hand → Step → Result A ShardFault → Type 0
Notes h old new step r = NotedIf (is_step r) h old new step

-- the answer is the shard's, with the shard and the number of the entry
abbrev pub reply_of : {A : Type 0} → ℕ → ℕ → Result A ShardFault → Result (Reply A) ShardFault
reply_of s n (Ok x) = Ok (record { shard = s; number = n; value = x })
reply_of s n (Err f) = Err f

-- what is answered is the table's outcome, as `Gives` ties them where the call is accepted
abbrev pub Replies : {A : Type 0} → ℕ → History → Step → (A → Type 0) → Result (Reply A) ShardFault → Type 0
Replies s h step Gives r =
    Answers (λ x. (x.shard ≡ s) × (x.number ≡ last_number h + 1) × Gives x.value) (outcome_of h step) r

-- the same of a step whose outcome names the new dot that is answered
abbrev pub RepliesDot : ℕ → History → Step → Result (Reply Dot) ShardFault → Type 0
RepliesDot s h step r = Replies s h step (λ d. new_dot (outcome_of h step) ≡ Some d) r

-- A checkpoint may give what the call lacked: room in the journal, or memory.
abbrev pub lacks_room : {A : Type 0} → Result A ShardFault → Bool
lacks_room (Err JournalFull) = true
lacks_room (Err OutOfMemory) = true
lacks_room _ = false

abbrev pub is_lack : Lack → Bool
is_lack lacks.Nothing = false
is_lack lacks.Room = true
is_lack lacks.Memory = true

-- the shard's history as it was lent, or as a checkpoint began it again, with each subscriber behind
abbrev pub IsOrBegins : History → History → Type 0
IsOrBegins lent h = (h ≡ lent) ⊎ (IsBegunAgain lent h × AllAreBehind h)

-- What a call left that makes room, where it lacks some, by one checkpoint, and is made again then: the step was made at the end
-- of the history as it was lent, or as it was begun again, the part has the receipt of a step that was made, the answer is the
-- table's there, and a refusal is the one that stands there. `Here` tells which histories are the shard's, and `there` whether
-- the call's subscriber is.
pub record CalledFrom {A : Type 0} (Here : History → Type 0) (there : History → Bool) (lent left : History) (old new : Hand)
    (step : Step) (Gives : History → A → Type 0) (r : Result (Reply A) ShardFault) : Type 0 where
  pub history : History
  pub from : IsOrBegins lent history
  pub legal : IsLegal history
  pub here : Here history
  pub made : Stepped history left (Some old.seat) step r
  pub notes : Notes history old new step r
  pub answer : Replies old.shard history step (Gives history) r
  pub due : IsDue r (refusal (there history) history step)

-- The same of a call without a seat.
pub record MadeFrom {A : Type 0} (Here : History → Type 0) (there : History → Bool) (lent left : History) (step : Step)
    (Gives : History → A → Type 0) (r : Result A ShardFault) : Type 0 where
  pub history : History
  pub from : IsOrBegins lent history
  pub legal : IsLegal history
  pub here : Here history
  pub made : Stepped history left None step r
  pub answer : Answers (Gives history) (outcome_of history step) r
  pub due : IsDue r (refusal (there history) history step)
