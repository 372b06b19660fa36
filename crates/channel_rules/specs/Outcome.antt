-- What the function of a rule promises.
use Rattle.std.specs.Prelude.{◌≡◌, List, Bool, true, false, Result, Ok, Err}
use Rattle.channel_rules.specs.Asks.{Ask, untrack_all, take, Answer, Call, Made, some_spoils, some_enters}
use Rattle.channel_rules.specs.Script.{Script, done, ask, Plays, Begins}
use Rattle.channel_rules.specs.Rules.{End, answers, full, memory}
use Rattle.channel_rules.specs.declared.stop.Stop.{Stop}
use Rattle.channel_rules.specs.declared.stop.StopKind.{StopKind}
use Rattle.channel_rules.specs.declared.stop.StopKind.TheVariants.{OutOfMemory, ShardFull}

-- how a rule's function ends: as the view says, or with a fault
abbrev pub seen : {T : Type 0} → (T → End) → Result T Stop → Result End Stop
seen view (Ok t) = Ok (view t)
seen view (Err stop) = Err stop

-- where the port has refused and no reply stands for that, the fault is no want of memory
abbrev pub CanWant : End → Type 0
CanWant (answers said after) = Unit {0}
CanWant full = ⊥
CanWant memory = Unit {0}

-- Nothing is made between the two calls that end a join, nor between the question what waits and its take.
abbrev pub CanWantBefore : Ask → Type 0
CanWantBefore (untrack_all t) = ⊥
CanWantBefore (take t s n) = ⊥
CanWantBefore _ = Unit {0}

abbrev pub MayWant : Script End → Type 0
MayWant (done end) = CanWant end
MayWant (ask q next) = CanWantBefore q

-- A fault comes where the script says so, or where memory runs out, which it never does behind a subscriber that was made: nobody would know of it.
abbrev pub Stopped : StopKind → Script End → List Call → Type 0
Stopped OutOfMemory script made = Begins MayWant script made × (some_enters made ≡ false)
Stopped ShardFull script made = Plays script made full

-- With the answers of these calls the script comes to this end, or to the fault.
abbrev pub EndsSo : Script End → List Call → Result End Stop → Type 0
EndsSo script made (Ok end) = Plays script made end
EndsSo script made (Err stop) = Stopped stop.kind script made × (stop.spoiled ≡ some_spoils made)

-- From the one port to the other the calls of the script were made, in its order, up to this end.
pub record Follows {P : Type 0} (step : P → (q : Ask) → Answer q → P → Type 0) (script : Script End) (old new : P)
    (result : Result End Stop) : Type 0 where
  pub made : List Call
  pub calls : Made step old made new
  pub ends : EndsSo script made result

-- Where the script is at its end: that end is given, or memory ran out.
abbrev pub Stops : StopKind → End → Type 0
Stops OutOfMemory end = CanWant end
Stops ShardFull end = end ≡ full

abbrev pub GivesEnd : End → Bool → Result End Stop → Type 0
GivesEnd end spoiled (Ok given) = end ≡ given
GivesEnd end spoiled (Err stop) = Stops stop.kind end × (stop.spoiled ≡ spoiled)

-- after a call that leaves something behind, a fault does too
abbrev pub spoilt : Result End Stop → Result End Stop
spoilt (Ok end) = Ok end
spoilt (Err stop) = Err (record { kind = stop.kind; spoiled = true })
