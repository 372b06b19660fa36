-- The rules of the built-in channel: what a session asks of its port, and what it answers to a message.
use Rattle.std.specs.Prelude.{ℕ, List, [], ◌∷◌, ◌++◌, ◌-◌, length, map, Bool, true, false, nat_le, if◌then◌else◌, Option, Some, None, Result, Ok, Err, codes}
use Rattle.std.specs.Str.{bytes_eq}
use Rattle.serde_json.specs.Data.{Data, string, object, no_members, member}
use Rattle.presence_base.specs.declared.dots.Dot.{Dot}
use Rattle.presence_base.specs.declared.row.Row.{Row}
use Rattle.presence_base.specs.Refs.{ref_of}
use Rattle.phx_message.specs.declared.message.MsgRef.{MsgRef}
use Rattle.phx_message.specs.declared.message.Message.{Message}
use Rattle.phx_message.specs.Making.{ok_reply, error_reply, closing}
use Rattle.hook_registry.specs.Routes.{first_kind}
use Rattle.tracker_shard.specs.declared.shard.Sub.{Sub}
use Rattle.tracker_shard.specs.declared.fault.ShardFault.TheVariants.{AlreadyTracked, NoPresence, ClockFull, JournalFull, OutOfMemory}
use Rattle.channel_rules.specs.declared.asked.Asked.{Asked}
use Rattle.channel_rules.specs.declared.asked.Asked.TheVariants.{Nothing, Bad, Wants}
use Rattle.channel_rules.specs.declared.kind.EventKind.{EventKind}
use Rattle.channel_rules.specs.declared.kind.EventKind.TheVariants as kinds_are
use Rattle.channel_rules.specs.declared.kind.TopicEvent.{TopicEvent}
use Rattle.channel_rules.specs.declared.kind.TopicEvent.TheVariants as events_are
use Rattle.channel_rules.specs.declared.refusal.Refusal.{Refusal}
use Rattle.channel_rules.specs.declared.refusal.Refusal.TheVariants.{OverRation, NotGranted, Table}
use Rattle.channel_rules.specs.declared.topics.TheConstants.{MAX_TOPICS}
use Rattle.channel_rules.specs.Asks.{track, update, untrack, untrack_all, list, get, subscribe, unsubscribe, shout}
use Rattle.channel_rules.specs.Script.{Script, done, ask}
use Rattle.channel_rules.specs.Asked.{asked, key_asked}
use Rattle.channel_rules.specs.Said.{Said, message, listed}
pub use Rattle.channel_rules.specs.InForce.{Joined, InForce, find, without_topic}

-- How a text ends: this is said, or the port refused and no reply stands for that, or the port wants memory.
pub data End : Type 0 where
  answers : (said : List Said) → (after : InForce) → End
  full : End
  memory : End

-- ---- messages

-- these messages go out
abbrev pub says : List Message → InForce → End
says ms s = answers (map message ms) s

abbrev pub empty : Data
empty = object no_members

-- replies to a message under a join reference
abbrev pub ok : Option MsgRef → Message → Data → Message
ok r m response = ok_reply r m.msg_ref m.topic response

abbrev pub error : Option MsgRef → Message → List ℕ → Message
error r m reason = error_reply r m.msg_ref m.topic reason

-- a reply goes out
abbrev pub says_ok : Option MsgRef → Message → Data → InForce → End
says_ok r m response s = says (ok r m response ∷ []) s

abbrev pub says_error : Option MsgRef → Message → List ℕ → InForce → End
says_error r m reason s = says (error r m reason ∷ []) s

-- the response that tells a reference
abbrev pub told_ref : Dot → Data
told_ref d = object (member (codes "phx_ref") (string (ref_of d)) no_members)

-- ---- refusals of the port, each with the reason that stands for it, where one does

-- `full` and `unauthorized`, where the port refuses by itself, and `full` at the text's first call
abbrev pub full_reason : Bool → Refusal → Option (List ℕ)
full_reason first OverRation = Some (codes "full")
full_reason first NotGranted = Some (codes "unauthorized")
full_reason first (Table ClockFull) = if first then Some (codes "full") else None
full_reason first (Table JournalFull) = if first then Some (codes "full") else None
full_reason first _ = None

-- a subscription, behind whose own track nothing is told
abbrev pub subscribe_reason : Option Bool → Refusal → Option (List ℕ)
subscribe_reason None e = None
subscribe_reason (Some first) e = full_reason first e

abbrev pub track_reason : Bool → Refusal → Option (List ℕ)
track_reason first (Table AlreadyTracked) = Some (codes "already tracked")
track_reason first e = full_reason first e

abbrev pub update_reason : Refusal → Option (List ℕ)
update_reason (Table NoPresence) = Some (codes "no presence")
update_reason e = full_reason true e

-- a refusal for which no reply stands
abbrev pub unsaid : Refusal → End
unsaid (Table OutOfMemory) = memory
unsaid _ = full

abbrev pub said : (List ℕ → End) → Refusal → Option (List ℕ) → End
said answer e (Some reason) = answer reason
said answer e None = unsaid e

-- ---- events of a joined topic of this kind, whose present join's reference is r

abbrev pub replied : {A : Type 0} → InForce → Option MsgRef → Message → (Refusal → Option (List ℕ))
    → (A → List Said) → Result A Refusal → End
replied s r m reason reply (Ok x) = answers (reply x) s
replied s r m reason reply (Err e) = said (λ t. says (error r m t ∷ []) s) e (reason e)

-- what the port's answers lead to
abbrev pub after_shout : InForce → Option MsgRef → Message → Result (Unit {0}) Refusal → End
after_shout s r m a = replied s r m (full_reason true) (λ u. []) a

abbrev pub after_track : InForce → Option MsgRef → Message → Result Dot Refusal → End
after_track s r m a = replied s r m (track_reason true) (λ d. message (ok r m (told_ref d)) ∷ []) a

abbrev pub after_update : InForce → Option MsgRef → Message → Result Dot Refusal → End
after_update s r m a = replied s r m update_reason (λ d. message (ok r m (told_ref d)) ∷ []) a

abbrev pub after_untrack : InForce → Option MsgRef → Message → Result (Unit {0}) Refusal → End
after_untrack s r m a = replied s r m (full_reason true) (λ u. message (ok r m empty) ∷ []) a

abbrev pub after_list : ℕ → InForce → Option MsgRef → Message → Result (List (Dot × Row)) Refusal → End
after_list kind s r m a = replied s r m (full_reason true) (λ rows. listed kind r m rows ∷ []) a

abbrev pub bad_payload : InForce → Option MsgRef → Message → Script End
bad_payload s r m = done (says_error r m (codes "bad payload") s)

abbrev pub on_ping : InForce → Option MsgRef → Message → Script End
on_ping s r m = done (says_ok r m m.payload s)

abbrev pub on_shout : InForce → Option MsgRef → Message → Script End
on_shout s r m = ask (shout m.topic m.payload) (λ a. done (after_shout s r m a))

abbrev pub on_track : InForce → Option MsgRef → Message → Asked → Script End
on_track s r m (Wants key meta) = ask (track m.topic key meta) (λ a. done (after_track s r m a))
on_track s r m _ = bad_payload s r m

abbrev pub on_update : InForce → Option MsgRef → Message → Asked → Script End
on_update s r m (Wants key meta) = ask (update m.topic key meta) (λ a. done (after_update s r m a))
on_update s r m _ = bad_payload s r m

abbrev pub on_untrack : InForce → Option MsgRef → Message → Option (List ℕ) → Script End
on_untrack s r m (Some key) = ask (untrack m.topic key) (λ a. done (after_untrack s r m a))
on_untrack s r m None = bad_payload s r m

abbrev pub on_list : ℕ → InForce → Option MsgRef → Message → Script End
on_list kind s r m = ask (list m.topic) (λ a. done (after_list kind s r m a))

abbrev pub on_get : ℕ → InForce → Option MsgRef → Message → Option (List ℕ) → Script End
on_get kind s r m (Some key) = ask (get m.topic key) (λ a. done (after_list kind s r m a))
on_get kind s r m None = bad_payload s r m

abbrev pub on_unknown : InForce → Option MsgRef → Message → Script End
on_unknown s r m = done (says_error r m (codes "unknown event") s)

-- ---- the end of a join

abbrev pub left : InForce → List ℕ → InForce
left s t = record { pid = s.pid; failed = s.failed; joined = without_topic t s.joined; cut_short = s.cut_short }

abbrev pub then_next : Script End → Result (Unit {0}) Refusal → Script End
then_next next (Ok u) = next
then_next next (Err e) = done (unsaid e)

-- both calls that end a join, and then the next
abbrev pub ended : List ℕ → Sub → Script End → Script End
ended topic sub next = ask (unsubscribe topic sub) (then_next (ask (untrack_all topic) (then_next next)))

-- a leave of a topic that isn't joined is answered ok under the message's own join reference
abbrev pub on_leave : InForce → Option Joined → Message → Script End
on_leave s (Some j) m =
    ended m.topic j.sub (done (says (ok j.join_ref m empty ∷ closing j.join_ref m.topic ∷ []) (left s m.topic)))
on_leave s None m = done (says_ok m.join_ref m empty s)

-- ---- joins: `before` is said before the join's own reply, `first` tells whether its first call is the text's, `kind` is that of the topic

abbrev pub or_ref : Option MsgRef → Option MsgRef → Option MsgRef
or_ref (Some r) other = Some r
or_ref None other = other

-- the reference of a join: the message's join reference, or its reference where that is null
abbrev pub join_ref_of : Message → Option MsgRef
join_ref_of m = or_ref m.join_ref m.msg_ref

abbrev pub joins : ℕ → InForce → Message → Sub → InForce
joins kind s m sub = record {
  pid = s.pid;
  failed = s.failed;
  joined = s.joined ++ record { topic = m.topic; kind = kind; join_ref = join_ref_of m; sub = sub } ∷ [];
  cut_short = s.cut_short;
}

abbrev pub answers_join : List Said → Message → InForce → End
answers_join before reply s = answers (before ++ message reply ∷ []) s

abbrev pub refuses : List Said → InForce → Message → List ℕ → End
refuses before s m reason = answers_join before (error (join_ref_of m) m reason) s

abbrev pub after_subscribe : Option Bool → List Said → ℕ → InForce → Message → Data → Result Sub Refusal → End
after_subscribe first before kind s m response (Ok sub) =
    answers_join before (ok (join_ref_of m) m response) (joins kind s m sub)
after_subscribe first before kind s m response (Err e) = said (refuses before s m) e (subscribe_reason first e)

abbrev pub subscribes : Option Bool → List Said → ℕ → InForce → Message → Data → Script End
subscribes first before kind s m response =
    ask (subscribe m.topic) (λ a. done (after_subscribe first before kind s m response a))

abbrev pub then_subscribe : Bool → List Said → ℕ → InForce → Message → Result Dot Refusal → Script End
then_subscribe first before kind s m (Ok d) = subscribes None before kind s m (told_ref d)
then_subscribe first before kind s m (Err e) = done (said (refuses before s m) e (track_reason first e))

abbrev pub tracks : Bool → List Said → ℕ → InForce → Message → List ℕ → Data → Script End
tracks first before kind s m key meta = ask (track m.topic key meta) (then_subscribe first before kind s m)

-- a join of one topic too many is refused, and any other goes on
abbrev pub within : ℕ → List Said → InForce → Message → Script End → Script End
within count before s m next =
    if nat_le MAX_TOPICS count then done (refuses before s m (codes "too many topics")) else next

-- a bad payload is told first
abbrev pub join_asked : ℕ → Bool → List Said → ℕ → InForce → Message → Asked → Script End
join_asked count first before kind s m Bad = done (refuses before s m (codes "bad payload"))
join_asked count first before kind s m Nothing = within count before s m (subscribes (Some first) before kind s m empty)
join_asked count first before kind s m (Wants key meta) =
    within count before s m (tracks first before kind s m key meta)

-- The old join ends, its close goes out, and the new join is handled.
abbrev pub rejoins : ℕ → Joined → ℕ → InForce → Message → Asked → Script End
rejoins count j kind s m a =
    ended m.topic j.sub (join_asked count false (message (closing j.join_ref m.topic) ∷ []) kind s m a)

abbrev pub on_join : ℕ → ℕ → InForce → Option Joined → Message → Asked → Script End
on_join count kind s None m a = join_asked count true [] kind s m a
on_join count kind s (Some j) m a = rejoins (count - 1) j kind (left s m.topic) m a

-- ---- the whole table, in the order in which the rules are tried

abbrev pub unmatched : InForce → Message → Script End
unmatched s m = done (says_error m.join_ref m (codes "unmatched topic") s)

abbrev pub on_heartbeat : InForce → Message → Script End
on_heartbeat s m = done (says_ok None m empty s)

abbrev pub on_event : ℕ → InForce → Option MsgRef → Message → TopicEvent → Script End
on_event kind s r m events_are.Ping = on_ping s r m
on_event kind s r m events_are.Shout = on_shout s r m
on_event kind s r m events_are.Track = on_track s r m (asked m.payload)
on_event kind s r m events_are.Update = on_update s r m (asked m.payload)
on_event kind s r m events_are.Untrack = on_untrack s r m (key_asked m.payload)
on_event kind s r m events_are.List = on_list kind s r m
on_event kind s r m events_are.Get = on_get kind s r m (key_asked m.payload)
on_event kind s r m events_are.Unknown = on_unknown s r m

abbrev pub on_topic : InForce → Option Joined → Message → TopicEvent → Script End
on_topic s (Some j) m event = on_event j.kind s j.join_ref m event
on_topic s None m event = unmatched s m

-- a topic without a kind can't be joined
abbrev pub by_route : ℕ → InForce → Option Joined → Message → Option ℕ → Script End
by_route count s j m None = unmatched s m
by_route count s j m (Some kind) = on_join count kind s j m (asked m.payload)

-- heartbeats on `phoenix`; joins of a topic that can be joined; leaves; everything else
abbrev pub by_kind : Bool → Option ℕ → ℕ → InForce → Option Joined → Message → EventKind → Script End
by_kind phoenix route count s j m kinds_are.Heartbeat =
    if phoenix then on_heartbeat s m else on_topic s j m events_are.Unknown
by_kind phoenix route count s j m kinds_are.Join = by_route count s j m route
by_kind phoenix route count s j m kinds_are.Leave = on_leave s j m
by_kind phoenix route count s j m (kinds_are.Topic event) = on_topic s j m event

-- the topic of heartbeats, which is never joined
abbrev pub is_phoenix : List ℕ → Bool
is_phoenix t = bytes_eq t (codes "phoenix")

-- the kind of the topics that can be joined: that of the first route that matches
abbrev pub route_of : Bool → List (List ℕ × ℕ) → List ℕ → Option ℕ
route_of phoenix routes t = if phoenix then None else first_kind t routes

abbrev pub topic_event_of : List ℕ → TopicEvent
topic_event_of event =
    if bytes_eq event (codes "ping") then events_are.Ping
    else (if bytes_eq event (codes "shout") then events_are.Shout
    else (if bytes_eq event (codes "track") then events_are.Track
    else (if bytes_eq event (codes "update") then events_are.Update
    else (if bytes_eq event (codes "untrack") then events_are.Untrack
    else (if bytes_eq event (codes "list") then events_are.List
    else (if bytes_eq event (codes "get") then events_are.Get
    else events_are.Unknown))))))

abbrev pub kind_of : List ℕ → EventKind
kind_of event =
    if bytes_eq event (codes "heartbeat") then kinds_are.Heartbeat
    else (if bytes_eq event (codes "phx_join") then kinds_are.Join
    else (if bytes_eq event (codes "phx_leave") then kinds_are.Leave
    else kinds_are.Topic (topic_event_of event)))

-- ---- the rules of a session as it stands

-- the join of the message's topic
abbrev pub join_at : InForce → Message → Option Joined
join_at s m = find m.topic s.joined

abbrev pub join_rule : ℕ → InForce → Option Joined → Message → Script End
join_rule kind s j m = on_join (length s.joined) kind s j m (asked m.payload)

abbrev pub leave_rule : InForce → Option Joined → Message → Script End
leave_rule s j m = on_leave s j m

abbrev pub topic_rule : InForce → Message → TopicEvent → Script End
topic_rule s m event = on_topic s (join_at s m) m event

abbrev pub kind_rule : Bool → Option ℕ → InForce → Message → EventKind → Script End
kind_rule phoenix route s m kind = by_kind phoenix route (length s.joined) s (join_at s m) m kind

unfoldable pub rules : List (List ℕ × ℕ) → InForce → Message → Script End
rules routes s m = kind_rule (is_phoenix m.topic) (route_of (is_phoenix m.topic) routes m.topic) s m (kind_of m.event)
