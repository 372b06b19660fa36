-- What stands behind the answer of a call without a seat, which has let the lock go.
use Rattle.presence_base.specs.declared.dots.Dot.{Dot}
use Rattle.std.specs.Prelude.{◌≡◌, ◌⊎◌, true, false, ℕ, Bool, List, Some, None, Result, Ok, Err, IfOk, OnOk, OnErr}
use Rattle.delta_range.specs.Deltas.{DeltaValue}
use Rattle.presence_journal.specs.declared.step.Step.{Step}
use Rattle.presence_journal.specs.declared.step.Step.TheVariants as steps_are
use Rattle.presence_journal.specs.History.{History, own}
use Rattle.presence_journal.specs.Queue.{QueuesStay, AllAreBehind}
use Rattle.presence_journal.specs.Table.{IsLegal, outcome_of}
use Rattle.presence_journal_cuts.specs.Cuts.{IsCut}
use Rattle.tracker_feeds.specs.Quiet.{IsQuiet, IsBusy}
use Rattle.shard_pool.specs.declared.due.DueFrom.{DueFrom}
use Rattle.shard_pool.specs.Due.{HasMany, TellsMany}
use Rattle.tracker_shard.specs.declared.fault.ShardFault.{ShardFault}
use Rattle.tracker_shard.specs.declared.fault.ShardFault.TheVariants.{JournalFull}
use Rattle.tracker_index.specs.Starting.{IsBegunAgain}
use Rattle.tracker_shard.specs.Steps.{Stepped, Answers, IsDue, RefusesForRoom, refusal, checkpoint_refusal, AnswersPairs, KeepsRows}

-- a legal journal of the node
abbrev pub IsOf : List ℕ → History → Type 0
IsOf node h = IsLegal h × ((own h).name ≡ node)

-- some legal history of the node is such
pub record IsBehind (node : List ℕ) (Is : History → Type 0) : Type 0 where
  pub history : History
  pub legal : IsLegal history
  pub of_node : (own history).name ≡ node
  pub is : Is history

-- some legal history of those that `Here` tells is such
pub record IsBehindOf (Here : History → Type 0) (Is : History → Type 0) : Type 0 where
  pub history : History
  pub legal : IsLegal history
  pub here : Here history
  pub is : Is history

-- The answer is that of a call without a seat at the history's end. `there` tells whether its subscriber is there.
pub record IsDone {A : Type 0} (there : History → Bool) (Gives : History → A → Type 0) (h : History) (s : Step)
    (r : Result A ShardFault) : Type 0 where
  pub left : History
  pub step : Stepped h left None s r
  pub answer : Answers (Gives h) (outcome_of h s) r
  pub due : IsDue r (refusal (there h) h s)

-- The answer is that of the step without a seat at the history's end, and what it gives is such. It is refused at most
-- for want of room.
pub record IsMadeWith {A : Type 0} (Gives : A → Type 0) (h : History) (s : Step)
    (r : Result A ShardFault) : Type 0 where
  pub left : History
  pub step : Stepped h left None s r
  pub answer : Answers Gives (outcome_of h s) r
  pub due : IsDue r (refusal true h s)
  pub room : RefusesForRoom r

-- a step that gives nothing but that it was made
abbrev pub IsMade : {A : Type 0} → History → Step → Result A ShardFault → Type 0
IsMade h s r = IsMadeWith (λ _. Unit {0}) h s r

-- The answer is that of a rebirth at the history's end: the new dots, each with its old one, and no row is lost by it.
pub record IsRebornMade (h : History) (incarnation : ℕ) (r : Result (List (Dot × Dot)) ShardFault) : Type 0 where
  pub left : History
  pub step : Stepped h left None (steps_are.Rebirth incarnation) r
  pub answer : AnswersPairs h incarnation r
  pub due : IsDue r (refusal true h (steps_are.Rebirth incarnation))
  pub rows : IfOk r (KeepsRows h left)

-- the answer is that of a cut at the history's end, with the delta that it tells
abbrev pub IsCutMade : History → Result DeltaValue ShardFault → Type 0
IsCutMade h r = IsMadeWith (IsCut h) h steps_are.Cut r

-- A Start that stands for the journal is put in its place, and each subscriber is behind; or it stays as it is where that is
-- refused, at most for want of room.
pub record IsCheckpointed (h : History) (r : Result Unit ShardFault) : Type 0 where
  pub left : History
  pub again : OnOk r (IsBegunAgain h left)
  pub behind : OnOk r (AllAreBehind left)
  pub same : OnErr r (left ≡ h)
  pub due : IsDue r (checkpoint_refusal h)
  pub room : RefusesForRoom r

-- what is left where a checkpoint was made, where none was, and where it was refused
abbrev pub Leaves : History → History → Result Bool ShardFault → Type 0
Leaves h left (Ok true) = IsBegunAgain h left
Leaves h left (Ok false) = left ≡ h
Leaves h left (Err e) = left ≡ h

-- the journal is due and no item waits for anybody; or it isn't so
abbrev pub TellsDue : DueFrom → History → Bool → Type 0
TellsDue due h true = HasMany due h × IsQuiet h
TellsDue due h false = TellsMany due h false ⊎ IsBusy h

-- A checkpoint is made where the journal is due and no item waits for anybody, and only there, and nobody feels it. Memory
-- may be wanting for that look too.
pub record IsMadeWhereQuiet (due : DueFrom) (h : History) (r : Result Bool ShardFault) : Type 0 where
  pub left : History
  pub leaves : Leaves h left r
  pub queues : IfOk r (λ made. QueuesStay h left)
  pub told : IfOk r (TellsDue due h)
  pub asked : OnErr r (HasMany due h)
  pub full : r ≡ Err JournalFull → checkpoint_refusal h ≡ Some JournalFull
  pub room : RefusesForRoom r
