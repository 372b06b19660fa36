-- What the function of a rule gives back, as an end of its script.
use Rattle.std.specs.Prelude.{List, [], ◌∷◌, map, Bool, Result, IfOk}
use Rattle.phx_message.specs.Making.{ok_reply}
use Rattle.phx_message.specs.declared.message.Message.{Message}
use Rattle.presence_metas.specs.Values.{state_of}
use Rattle.channel_rules.specs.Asks.{Ask, Answer}
use Rattle.channel_rules.specs.Outcome.{Follows, GivesEnd, seen}
use Rattle.channel_rules.specs.Said.{Said, message, EachBy}
use Rattle.channel_rules.specs.Script.{Script}
use Rattle.channel_rules.specs.declared.stop.Stop.{Stop}
use Rattle.channel_rules.specs.Rules.{InForce, End, answers}
use Rattle.channel_rules.specs.declared.replies.Reply.{Reply}
use Rattle.channel_rules.specs.declared.replies.Reply.TheVariants.{Nothing, One, Two, Listed}

abbrev pub messages_of : Reply → List Message
messages_of Nothing = []
messages_of (One w) = w.message ∷ []
messages_of (Two w v) = w.message ∷ v.message ∷ []
messages_of (Listed l) = ok_reply l.join_ref l.msg_ref l.topic (state_of l.rows) ∷ []

-- these messages are said, and the session is this one after them
abbrev pub reply_end : InForce → Reply → End
reply_end s r = answers (map message (messages_of r)) s

-- the calls of the rule were made, and its reply leaves this session
abbrev pub Acts : {P : Type 0} → (P → (q : Ask) → Answer q → P → Type 0) → Script End → P → P → InForce
    → Result Reply Stop → Type 0
Acts step rule old new after result = Follows step rule old new (seen (reply_end after) result)

-- so it is whatever is in force, which the reply leaves as it was
abbrev pub Runs : {P : Type 0} → (P → (q : Ask) → Answer q → P → Type 0) → (InForce → Script End) → P → P
    → Result Reply Stop → Type 0
Runs step rule old new result = (s : InForce) → Acts step (rule s) old new s result

-- where the rule is at its end, whatever is in force
abbrev pub RepliesWith : (InForce → End) → Bool → Result Reply Stop → Type 0
RepliesWith end spoiled result = (s : InForce) → GivesEnd (end s) spoiled (seen (reply_end s) result)

-- ---- replies that tell what a fetch adds: W ties what is said to its message

-- this is said, and the session is this one after it
abbrev pub said_end : List Said → InForce → Reply → End
said_end said s r = answers said s

-- the reply is of messages that tell this
abbrev pub IsWordedBy : (Said → Message → Type 0) → List Said → Result Reply Stop → Type 0
IsWordedBy W said result = IfOk result (λ r. EachBy W said (messages_of r))

-- The calls of the rule were made: this session is left, and the reply tells what is said.
pub record ActsBy {P : Type 0} (W : Said → Message → Type 0) (step : P → (q : Ask) → Answer q → P → Type 0)
    (rule : Script End) (old new : P) (after : InForce) (result : Result Reply Stop) : Type 0 where
  pub said : List Said
  pub worded : IsWordedBy W said result
  pub acts : Follows step rule old new (seen (said_end said after) result)

abbrev pub RunsBy : {P : Type 0} → (Said → Message → Type 0) → (P → (q : Ask) → Answer q → P → Type 0)
    → (InForce → Script End) → P → P → Result Reply Stop → Type 0
RunsBy W step rule old new result = (s : InForce) → ActsBy W step (rule s) old new s result

-- where the rule is at its end, whatever is in force
pub record RepliesBy (W : Said → Message → Type 0) (end : InForce → End) (spoiled : Bool)
    (result : Result Reply Stop) : Type 0 where
  pub said : List Said
  pub worded : IsWordedBy W said result
  pub gives : (s : InForce) → GivesEnd (end s) spoiled (seen (said_end said s) result)
