-- The two calls that end a join, and what a join gives back.
use Rattle.std.specs.Prelude.{◌≡◌, ℕ, List, [], ◌∷◌, ◌++◌, Bool, true, Option, None, Some, Result, Ok, Err, is_ok}
use Rattle.phx_message.specs.Making.{closing}
use Rattle.phx_message.specs.declared.message.Message.{Message}
use Rattle.tracker_shard.specs.declared.shard.Sub.{Sub}
use Rattle.channel_rules.specs.Asks.{Ask, Answer}
use Rattle.channel_rules.specs.Script.{Script}
use Rattle.serde_json.specs.Data.{Data}
use Rattle.channel_rules.specs.declared.refusal.Refusal.{Refusal}
use Rattle.channel_rules.specs.Asked.{asked}
use Rattle.channel_rules.specs.Replies.{Acts}
use Rattle.channel_rules.specs.InForce.{Joined, InForce}
use Rattle.channel_rules.specs.Rules.{End, after_subscribe, answers, ended, join_asked, join_ref_of, joins, left, ok, on_leave, rejoins, empty}
use Rattle.channel_rules.specs.Said.{Said, message}
use Rattle.channel_rules.specs.Outcome.{Follows, GivesEnd, seen, spoilt}
use Rattle.channel_rules.specs.declared.asked.Asked.{Asked}
use Rattle.channel_rules.specs.declared.replies.Reply.{Reply}
use Rattle.channel_rules.specs.declared.stop.Stop.{Stop}
use Rattle.channel_session.specs.declared.joins.JoinReply.{JoinReply}
use Rattle.channel_session.specs.declared.joins.RejoinReply.{RejoinReply}

-- Whatever follows them: what follows is made from here on, or they were refused.
abbrev pub Leads : {P : Type 0} → (P → (q : Ask) → Answer q → P → Type 0) → List ℕ → Sub → P → P
    → Result (Unit {0}) Stop → Type 0
Leads {P} step topic sub old new (Ok u) = (next : Script End) (last : P) (r : Result End Stop)
    → Follows step next new last r → Follows step (ended topic sub next) old last (spoilt r)
Leads step topic sub old new (Err stop) = (next : Script End)
    → Follows step (ended topic sub next) old new (Err stop)

-- What a join of a topic of this kind leaves in force: nothing new where it was refused.
abbrev pub joined_by : ℕ → InForce → Message → Option Sub → InForce
joined_by kind s m None = s
joined_by kind s m (Some sub) = joins kind s m sub

abbrev pub join_end : List Said → ℕ → InForce → Message → JoinReply → End
join_end before kind s m r = answers (before ++ message r.reply.message ∷ []) (joined_by kind s m r.sub)

abbrev pub rejoin_end : ℕ → InForce → Message → RejoinReply → End
rejoin_end kind s m r = join_end (message r.close.message ∷ []) kind s m r.join

-- the calls of the join's rule were made, whatever was said before, whatever the topic's kind is and whatever is in force
abbrev pub JoinRuns : {P : Type 0} → (P → (q : Ask) → Answer q → P → Type 0) → (List Said → ℕ → InForce → Script End)
    → Message → P → P → Result JoinReply Stop → Type 0
JoinRuns step rule m old new result = (before : List Said) (kind : ℕ) (s : InForce)
    → Follows step (rule before kind s) old new (seen (join_end before kind s m) result)

-- where it is at its end
abbrev pub JoinRepliesWith : (List Said → ℕ → InForce → End) → Bool → Message → Result JoinReply Stop → Type 0
JoinRepliesWith end spoiled m result = (before : List Said) (kind : ℕ) (s : InForce)
    → GivesEnd (end before kind s) spoiled (seen (join_end before kind s m) result)

abbrev pub RejoinRuns : {P : Type 0} → (P → (q : Ask) → Answer q → P → Type 0) → (ℕ → InForce → Script End) → Message
    → P → P → Result RejoinReply Stop → Type 0
RejoinRuns step rule m old new result = (kind : ℕ) (s : InForce)
    → Follows step (rule kind s) old new (seen (rejoin_end kind s m) result)

-- the reply to a leave, and the close behind it
abbrev pub leave_end : Joined → Message → InForce → End
leave_end j m s = answers (message (ok j.join_ref m empty) ∷ message (closing j.join_ref m.topic) ∷ []) s

-- ---- whole joins and leaves

-- Where the reply tells this response, the answer to the subscription leads to it or to a refusal.
abbrev pub Subscribed : Option Bool → Message → Message → Result Sub Refusal → Result JoinReply Stop → Type 0
Subscribed first m reply answer result = (response : Data) → reply ≡ ok (join_ref_of m) m response
    → JoinRepliesWith (λ before kind s. after_subscribe first before kind s m response answer) (is_ok answer) m result

-- a join that asks this, by a session that has joined so many topics, whose calls may be the first
abbrev pub JoinsAsked : {P : Type 0} → (P → (q : Ask) → Answer q → P → Type 0) → ℕ → Bool → Message → Asked → P → P
    → Result JoinReply Stop → Type 0
JoinsAsked step count first m a old new result =
    JoinRuns step (λ before kind s. join_asked count first before kind s m a) m old new result

-- a first join, before which nothing is said, by a session that has joined so many topics
abbrev pub Joins : {P : Type 0} → (P → (q : Ask) → Answer q → P → Type 0) → ℕ → Message → P → P
    → Result JoinReply Stop → Type 0
Joins step count m old new result = (kind : ℕ) (s : InForce)
    → Follows step (join_asked count true [] kind s m (asked m.payload)) old new
    (seen (join_end [] kind s m) result)

-- a join behind the close of the old one
abbrev pub JoinsBehind : {P : Type 0} → (P → (q : Ask) → Answer q → P → Type 0) → ℕ → Bool → Message → Message
    → Asked → P → P → Result RejoinReply Stop → Type 0
JoinsBehind step count first close m a old new result =
    RejoinRuns step (λ kind s. join_asked count first (message close ∷ []) kind s m a) m old new result

-- the end of this join, and then the new one
abbrev pub Rejoins : {P : Type 0} → (P → (q : Ask) → Answer q → P → Type 0) → ℕ → Joined → Message → P → P
    → Result RejoinReply Stop → Type 0
Rejoins step count j m old new result =
    RejoinRuns step (λ kind s. rejoins count j kind s m (asked m.payload)) m old new result

-- a leave of this join, whatever is in force
abbrev pub Leaves : {P : Type 0} → (P → (q : Ask) → Answer q → P → Type 0) → Joined → Message → P → P
    → Result Reply Stop → Type 0
Leaves step j m old new result = (s after : InForce) → after ≡ left s m.topic
    → Acts step (on_leave s (Some j) m) old new after result
