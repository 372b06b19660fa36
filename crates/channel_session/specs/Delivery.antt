-- What a delivery did: the calls, what was said by which texts and notices, and what is left after a fault.
use Rattle.std.specs.Prelude.{◌≡◌, ℕ, List, true, if◌then◌else◌, Result, Ok, Err, IfOk}
use Rattle.phx_message.specs.declared.message.Message.{Message}
use Rattle.hook_registry.specs.declared.hooks.PresenceHooks.{Ghosts}
use Rattle.channel_session.specs.Carrying.{Carries}
use Rattle.channel_session.specs.Wording.{worded_by, noted_by}
pub use Rattle.channel_session.specs.declared.frames.Delivery.{Delivery}
use Rattle.channel_rules.specs.Asks.{Ask, Answer}
use Rattle.channel_rules.specs.Outcome.{Follows, seen}
use Rattle.channel_rules.specs.Rules.{End, answers}
use Rattle.channel_rules.specs.Said.{Said}
use Rattle.channel_rules.specs.Script.{Script}
use Rattle.channel_rules.specs.declared.stop.Stop.{Stop}
use Rattle.channel_session.specs.Ran.{fault_of, said_by}
use Rattle.channel_session.specs.declared.fault.SessionFault.{SessionFault}
pub use Rattle.channel_rules.specs.InForce.{InForce, Joined}
pub use Rattle.channel_rules.specs.Delivering.{then_told, then_take, delivers, delivery}

-- the session, which has failed
abbrev pub failing : InForce → InForce
failing s = record { pid = s.pid; failed = true; joined = s.joined; cut_short = s.cut_short }

-- A fault: the calls up to it, and a session that has failed where one of them left something behind, and else is as before.
pub record CutShort {P : Type 0} (step : P → (q : Ask) → Answer q → P → Type 0) (script : Script End) (s : InForce)
    (old new : P) (after : InForce) (fault : SessionFault) : Type 0 where
  pub stop : Stop
  pub fault_is : fault ≡ fault_of stop.kind
  pub calls : Follows step script old new (Err stop)
  pub left : after ≡ (if stop.spoiled then failing s else s)

-- From the one port and session to the others this was said, and the session is as before; or this fault came.
abbrev pub Delivered : {P : Type 0} → (P → (q : Ask) → Answer q → P → Type 0) → ℕ → InForce → P → P → InForce
    → Result (List Said) SessionFault → Type 0
Delivered step max s old new after (Ok said) = Follows step (delivery max s) old new (Ok (answers said s)) × (after ≡ s)
Delivered step max s old new after (Err fault) = CutShort step (delivery max s) s old new after fault

-- The calls of the script were made, and these texts and notices are of what it says.
pub record DealsBy {P : Type 0} (W : Said → Message → Type 0) (N : Said → List (List ℕ) → Type 0)
    (step : P → (q : Ask) → Answer q → P → Type 0) (script : Script End) (old new : P) (s : InForce)
    (result : Result Delivery Stop) : Type 0 where
  pub said : List Said
  pub carries : IfOk result (λ d. Carries W N said d)
  pub deals : Follows step script old new (seen (λ d. answers said s) result)

-- What a delivery did, and by which texts and notices.
pub record DeliveredBy {P : Type 0} (W : Said → Message → Type 0) (N : Said → List (List ℕ) → Type 0)
    (step : P → (q : Ask) → Answer q → P → Type 0) (max : ℕ) (s : InForce) (old new : P) (after : InForce)
    (result : Result Delivery SessionFault) : Type 0 where
  pub said : List Said
  pub carries : IfOk result (λ d. Carries W N said d)
  pub delivered : Delivered step max s old new after (said_by said result)

-- So it is whatever was said before and is in force, where this tells what was said.
abbrev pub DealsBehind : {P : Type 0} → (Said → Message → Type 0) → (Said → List (List ℕ) → Type 0)
    → (P → (q : Ask) → Answer q → P → Type 0) → (List Said → InForce → Script End) → P → P → Delivery
    → Result Delivery Stop → Type 0
DealsBehind W N step script old new before result = (said : List Said) (s : InForce) → Carries W N said before
    → DealsBy W N step (script said s) old new s result

-- ---- by the messages and notices of these hooks

-- the deliveries of these topics, whatever was said before them
abbrev pub DealsFrom : {H P : Type 0} → Ghosts H → H → (P → (q : Ask) → Answer q → P → Type 0) → ℕ → List Joined
    → P → P → Delivery → Result Delivery Stop → Type 0
DealsFrom G hooks step max js old new before result =
    DealsBehind (worded_by G hooks) (noted_by G hooks) step (λ said s. delivers max s js said) old new before result

-- the delivery to a session that lives
abbrev pub DeliveredTo : {H P : Type 0} → Ghosts H → H → (P → (q : Ask) → Answer q → P → Type 0) → ℕ → InForce → P
    → P → InForce → Result Delivery SessionFault → Type 0
DeliveredTo G hooks step max s old new after result =
    DeliveredBy (worded_by G hooks) (noted_by G hooks) step max s old new after result
