-- What a seated call leaves, once it has let the lock go.
use Rattle.std.specs.Prelude.{◌≡◌, Bool, Option, Some, None, Result, Ok, Err}
use Rattle.presence_journal.specs.declared.step.Step.{Step}
use Rattle.presence_journal.specs.History.{History}
use Rattle.presence_journal.specs.Table.{IsLegal}
use Rattle.tracker_shard.specs.declared.fault.ShardFault.{ShardFault}
use Rattle.tracker_shard.specs.declared.fault.ShardFault.TheVariants.{AlreadyTracked, NoPresence, ClockFull, JournalFull, NoSub, BadIncarnation, OutOfMemory}
use Rattle.tracker_shard.specs.Steps.{Stepped, refusal}
use Rattle.shard_pool.specs.declared.reply.Reply.{Reply}
use Rattle.shard_pool.specs.Hands.{Hand}
use Rattle.shard_pool.specs.Lent.{Notes, Replies}
pub use Rattle.tracker_shard.specs.Calls.{always, finds}

-- Each refusal is given where it is the one that stands. Want of memory for the receipt goes before all others.
abbrev pub IsDueOnceNoted : {A : Type 0} → Result A ShardFault → Option ShardFault → Type 0
IsDueOnceNoted (Ok x) r = r ≡ None
IsDueOnceNoted (Err AlreadyTracked) r = r ≡ None
IsDueOnceNoted (Err NoPresence) r = r ≡ None
IsDueOnceNoted (Err ClockFull) r = r ≡ Some ClockFull
IsDueOnceNoted (Err JournalFull) r = r ≡ Some JournalFull
IsDueOnceNoted (Err NoSub) r = r ≡ Some NoSub
IsDueOnceNoted (Err BadIncarnation) r = r ≡ Some BadIncarnation
IsDueOnceNoted (Err OutOfMemory) r = Unit {0}

-- Some legal history of the shard stands behind the answer: the step was made at its end, the part has the receipt of a step
-- that was made, the answer is the table's there, and a refusal is the one that stands there. `Here` tells which histories
-- are the shard's, and `there` whether the call's subscriber is.
pub record Called {A : Type 0} (Here : History → Type 0) (there : History → Bool) (old new : Hand) (step : Step)
    (Gives : History → A → Type 0) (r : Result (Reply A) ShardFault) : Type 0 where
  pub history : History
  pub left : History
  pub legal : IsLegal history
  pub here : Here history
  pub made : Stepped history left (Some old.seat) step r
  pub notes : Notes history old new step r
  pub answer : Replies old.shard history step (Gives history) r
  pub due : IsDueOnceNoted r (refusal (there history) history step)
