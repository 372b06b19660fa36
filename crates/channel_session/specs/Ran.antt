-- What a text did: the calls, what was said by which texts, and what is left after a fault.
use Rattle.std.specs.Prelude.{◌≡◌, ◌⊎◌, ℕ, List, map, true, false, Option, None, Some, Result, Ok, Err, IfOk, if◌then◌else◌, String, string_bytes, Vec}
use Rattle.std.specs.Global.{Global}
use Rattle.hook_registry.specs.declared.hooks.PresenceHooks.{Ghosts}
use Rattle.phx_message.specs.Reading.{decoded}
use Rattle.phx_message.specs.declared.message.TheConstants.Limits as the_limits
use Rattle.phx_message.specs.declared.message.Message.{Message}
use Rattle.phx_message.specs.declared.message.MessageFault.{MessageFault}
use Rattle.channel_session.specs.Wording.{worded_by}
use Rattle.channel_rules.specs.Asks.{Ask, Answer}
use Rattle.channel_rules.specs.Script.{Script}
use Rattle.channel_rules.specs.InForce.{InForce, Joined, find}
use Rattle.channel_rules.specs.Rules.{End, answers, rules}
use Rattle.channel_rules.specs.Outcome.{Follows}
use Rattle.channel_rules.specs.Said.{Said, WritesAll}
use Rattle.channel_rules.specs.declared.stop.Stop.{Stop}
use Rattle.channel_rules.specs.declared.stop.StopKind.{StopKind}
use Rattle.channel_rules.specs.declared.stop.StopKind.TheVariants as kinds
use Rattle.channel_session.specs.declared.fault.SessionFault.{SessionFault}
use Rattle.channel_session.specs.declared.fault.SessionFault.TheVariants.{BadMessage, OutOfMemory, ShardFull, Failed}

-- a topic that is not in force is named as cut short
abbrev pub left_named : Option Joined → Option (List ℕ) → List ℕ → Option (List ℕ)
left_named (Some j) cut_short t = cut_short
left_named None cut_short t = Some t

abbrev pub failed_at : InForce → List ℕ → InForce
failed_at s t =
    record { pid = s.pid; failed = true; joined = s.joined; cut_short = left_named (find t s.joined) s.cut_short t }

abbrev pub fault_of : StopKind → SessionFault
fault_of kinds.OutOfMemory = OutOfMemory
fault_of kinds.ShardFull = ShardFull

-- A fault: the calls up to it, and a session that has failed where one of them left something behind, and else is as before.
pub record Faulted {P : Type 0} (step : P → (q : Ask) → Answer q → P → Type 0) (script : Script End) (topic : List ℕ)
    (s : InForce) (old new : P) (after : InForce) (fault : SessionFault) : Type 0 where
  pub stop : Stop
  pub fault_is : fault ≡ fault_of stop.kind
  pub calls : Follows step script old new (Err stop)
  pub left : after ≡ (if stop.spoiled then failed_at s topic else s)

-- nothing was asked, and nothing changed
pub record Untouched {P : Type 0} (s : InForce) (old new : P) (after : InForce) : Type 0 where
  pub port : new ≡ old
  pub session : after ≡ s

-- What a message does: the calls of the rules were made, and this is said by them.
abbrev pub MessageRan : {P : Type 0} → (P → (q : Ask) → Answer q → P → Type 0) → List (List ℕ × ℕ) → InForce → Message
    → P → P → InForce → Result (List Said) SessionFault → Type 0
MessageRan step routes s m old new after (Ok said) = Follows step (rules routes s m) old new (Ok (answers said after))
    × (after.failed ≡ s.failed)
MessageRan step routes s m old new after (Err fault) = Faulted step (rules routes s m) m.topic s old new after fault

-- The message that a text is read as was handled so.
pub record ReadAs {P : Type 0} (step : P → (q : Ask) → Answer q → P → Type 0) (routes : List (List ℕ × ℕ))
    (s : InForce) (reading : Result Message MessageFault) (old new : P) (after : InForce)
    (result : Result (List Said) SessionFault) : Type 0 where
  pub message : Message
  pub read : reading ≡ Ok message
  pub ran : MessageRan step routes s message old new after result

-- What a text does, by how it ended. Memory may run out before anything is asked.
abbrev pub EndedSo : {P : Type 0} → (P → (q : Ask) → Answer q → P → Type 0) → List (List ℕ × ℕ) → InForce
    → Result Message MessageFault → P → P → InForce → Result (List Said) SessionFault → Type 0
EndedSo step routes s reading old new after (Err Failed) = (s.failed ≡ true) × Untouched s old new after
EndedSo step routes s reading old new after (Err (BadMessage f)) = (s.failed ≡ false) × (reading ≡ Err f)
    × Untouched s old new after
EndedSo step routes s reading old new after (Err ShardFull) = (s.failed ≡ false)
    × ReadAs step routes s reading old new after (Err ShardFull)
EndedSo step routes s reading old new after (Err OutOfMemory) = (s.failed ≡ false)
    × (Untouched s old new after ⊎ ReadAs step routes s reading old new after (Err OutOfMemory))
EndedSo step routes s reading old new after (Ok said) = (s.failed ≡ false)
    × ReadAs step routes s reading old new after (Ok said)

-- texts by their bytes
abbrev pub texts_in : Vec (String Global) Global → List (List ℕ)
texts_in texts = map string_bytes texts.items

-- this was said where something was given
abbrev pub said_by : {T : Type 0} → List Said → Result T SessionFault → Result (List Said) SessionFault
said_by said (Ok x) = Ok said
said_by said (Err fault) = Err fault

-- the texts that were given are of messages that tell what is said
abbrev pub WritesSaid : (Said → Message → Type 0) → List Said → Result (Vec (String Global) Global) SessionFault
    → Type 0
WritesSaid W said result = IfOk result (λ v. WritesAll W said (texts_in v))

-- What a message does, and by which texts.
pub record MessageRanBy {P : Type 0} (W : Said → Message → Type 0) (step : P → (q : Ask) → Answer q → P → Type 0)
    (routes : List (List ℕ × ℕ)) (s : InForce) (m : Message) (old new : P) (after : InForce)
    (result : Result (Vec (String Global) Global) SessionFault) : Type 0 where
  pub said : List Said
  pub writes : WritesSaid W said result
  pub ran : MessageRan step routes s m old new after (said_by said result)

-- What a text does, and by which texts.
pub record RanBy {P : Type 0} (W : Said → Message → Type 0) (step : P → (q : Ask) → Answer q → P → Type 0)
    (routes : List (List ℕ × ℕ)) (s : InForce) (reading : Result Message MessageFault) (old new : P) (after : InForce)
    (result : Result (Vec (String Global) Global) SessionFault) : Type 0 where
  pub said : List Said
  pub writes : WritesSaid W said result
  pub ended : EndedSo step routes s reading old new after (said_by said result)

-- What a text of a client does, by the messages of these hooks.
abbrev pub TextRan : {H P : Type 0} → Ghosts H → H → (P → (q : Ask) → Answer q → P → Type 0) → List (List ℕ × ℕ)
    → List ℕ → InForce → P → P → InForce → Result (Vec (String Global) Global) SessionFault → Type 0
TextRan G hooks step routes text s old new after result =
    RanBy (worded_by G hooks) step routes s (decoded the_limits.CLIENT text) old new after result
