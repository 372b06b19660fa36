-- What is answered where no step is made.
use Rattle.std.specs.Prelude.{◌≡◌, Bool, true, false, Result, Ok, Err}
use Rattle.presence_journal.specs.History.{History}
use Rattle.presence_journal.specs.Queue.{queue, is_waiting}
use Rattle.tracker_shard.specs.declared.shard.Sub.{Sub}
use Rattle.tracker_shard.specs.declared.fault.ShardFault.{ShardFault}
use Rattle.tracker_shard.specs.declared.fault.ShardFault.TheVariants.{NoSub, OutOfMemory}
use Rattle.tracker_shard.specs.Steps.{is_found}

-- what is told, unless memory is wanting
abbrev pub TellsIfOk : {A : Type 0} → (A → Type 0) → Result A ShardFault → Type 0
TellsIfOk Is (Ok x) = Is x
TellsIfOk Is (Err e) = e ≡ OutOfMemory

-- whether the subscriber is behind or has something waiting; one that is not there is refused
abbrev pub TellsWaiting : History → Sub → Result Bool ShardFault → Type 0
TellsWaiting h sub (Ok w) = (is_found h sub.slot sub.number ≡ true) × (w ≡ is_waiting (queue h sub.number))
TellsWaiting h sub (Err e) = (is_found h sub.slot sub.number ≡ false) × (e ≡ NoSub)
