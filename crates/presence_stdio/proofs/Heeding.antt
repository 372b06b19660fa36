-- Each rule of the channel, and each delivery, ends in want of memory where the port answers it.
use Rattle.std.proofs.Common.{ℕ, List, [], ◌∷◌, ◌-◌, Bool, true, false, if◌then◌else◌, nat_le, length, Option, Some, None, Result, Ok, Err, refl}
use Rattle.serde_json.specs.Data.{Data}
use Rattle.presence_base.specs.declared.dots.Dot.{Dot}
use Rattle.presence_journal.specs.declared.rows.Item.{Item}
use Rattle.phx_message.specs.declared.message.MsgRef.{MsgRef}
use Rattle.phx_message.specs.declared.message.Message.{Message}
use Rattle.phx_message.specs.Making.{closing}
use Rattle.channel_rules.specs.declared.refusal.Refusal.{Refusal}
use Rattle.tracker_shard.specs.declared.shard.Sub.{Sub}
use Rattle.channel_rules.specs.declared.asked.Asked.{Asked}
use Rattle.channel_rules.specs.declared.asked.Asked.TheVariants.{Nothing, Bad, Wants}
use Rattle.channel_rules.specs.declared.topics.TheConstants.{MAX_TOPICS}
use Rattle.channel_rules.specs.declared.kind.EventKind.{EventKind}
use Rattle.channel_rules.specs.declared.kind.EventKind.TheVariants as kinds_are
use Rattle.channel_rules.specs.declared.kind.TopicEvent.{TopicEvent}
use Rattle.channel_rules.specs.declared.kind.TopicEvent.TheVariants as events_are
use Rattle.channel_rules.specs.Asked.{asked, key_asked}
use Rattle.channel_rules.specs.Asks.{untrack_all}
use Rattle.channel_rules.specs.Delivering.{then_told, then_take, delivers, delivery}
use Rattle.presence_stdio.specs.Local.{Heeds}
use Rattle.channel_rules.specs.InForce.{InForce, Joined, find}
use Rattle.channel_rules.specs.Rules.{End, answers, memory, empty, left, then_next, ended, on_track, on_update, on_untrack, on_get, on_leave, then_subscribe, tracks, subscribes, join_asked, on_join, on_event, on_topic, by_kind, kind_of, is_phoenix, by_route, route_of, rules}
use Rattle.channel_rules.specs.Said.{Said, message}
use Rattle.channel_rules.specs.Script.{Script, ask}

track_heeds : (s : InForce) (r : Option MsgRef) (m : Message) (a : Asked) → Heeds memory (on_track s r m a)
track_heeds s r m Nothing = tt
track_heeds s r m Bad = tt
track_heeds s r m (Wants key meta) = (refl, λ a. tt)

update_heeds : (s : InForce) (r : Option MsgRef) (m : Message) (a : Asked) → Heeds memory (on_update s r m a)
update_heeds s r m Nothing = tt
update_heeds s r m Bad = tt
update_heeds s r m (Wants key meta) = (refl, λ a. tt)

untrack_heeds : (s : InForce) (r : Option MsgRef) (m : Message) (key : Option (List ℕ)) → Heeds memory (on_untrack s r m key)
untrack_heeds s r m None = tt
untrack_heeds s r m (Some key) = (refl, λ a. tt)

get_heeds : (kind : ℕ) (s : InForce) (r : Option MsgRef) (m : Message) (key : Option (List ℕ)) → Heeds memory (on_get kind s r m key)
get_heeds kind s r m None = tt
get_heeds kind s r m (Some key) = (refl, λ a. tt)

event_heeds : (kind : ℕ) (s : InForce) (r : Option MsgRef) (m : Message) (event : TopicEvent) → Heeds memory (on_event kind s r m event)
event_heeds kind s r m events_are.Ping = tt
event_heeds kind s r m events_are.Shout = (refl, λ a. tt)
event_heeds kind s r m events_are.Track = track_heeds s r m (asked m.payload)
event_heeds kind s r m events_are.Update = update_heeds s r m (asked m.payload)
event_heeds kind s r m events_are.Untrack = untrack_heeds s r m (key_asked m.payload)
event_heeds kind s r m events_are.List = (refl, λ a. tt)
event_heeds kind s r m events_are.Get = get_heeds kind s r m (key_asked m.payload)
event_heeds kind s r m events_are.Unknown = tt

topic_heeds : (s : InForce) (j : Option Joined) (m : Message) (event : TopicEvent) → Heeds memory (on_topic s j m event)
topic_heeds s None m event = tt
topic_heeds s (Some j) m event = event_heeds j.kind s j.join_ref m event

next_heeds : (next : Script End) → Heeds memory next → (a : Result (Unit {0}) Refusal) → Heeds memory (then_next next a)
next_heeds next h (Ok u) = h
next_heeds next h (Err e) = tt

ended_heeds : (topic : List ℕ) (sub : Sub) (next : Script End) → Heeds memory next → Heeds memory (ended topic sub next)
ended_heeds topic sub next h = (refl, next_heeds (ask (untrack_all topic) (then_next next)) (refl, next_heeds next h))

leave_heeds : (s : InForce) (j : Option Joined) (m : Message) → Heeds memory (on_leave s j m)
leave_heeds s None m = tt
leave_heeds s (Some j) m = ended_heeds m.topic j.sub _ tt

-- ---- joins

tracked_heeds : (first : Bool) (before : List Said) (kind : ℕ) (s : InForce) (m : Message) (a : Result Dot Refusal) → Heeds memory (then_subscribe first before kind s m a)
tracked_heeds true before kind s m (Ok d) = (refl, λ a. tt)
tracked_heeds false before kind s m (Ok d) = (refl, λ a. tt)
tracked_heeds first before kind s m (Err e) = tt

subscribes_heeds : (first : Option Bool) (before : List Said) (kind : ℕ) (s : InForce) (m : Message) (response : Data) → Heeds memory (subscribes first before kind s m response)
subscribes_heeds None before kind s m response = (refl, λ a. tt)
subscribes_heeds (Some first) before kind s m response = (refl, λ a. tt)

tracks_heeds : (first : Bool) (before : List Said) (kind : ℕ) (s : InForce) (m : Message) (key : List ℕ) (meta : Data) → Heeds memory (tracks first before kind s m key meta)
tracks_heeds true before kind s m key meta = (refl, tracked_heeds true before kind s m)
tracks_heeds false before kind s m key meta = (refl, tracked_heeds false before kind s m)

within_heeds : (full : Bool) (refused next : Script End) → Heeds memory refused → Heeds memory next → Heeds memory (if full then refused else next)
within_heeds true refused next r n = r
within_heeds false refused next r n = n

asked_heeds : (count : ℕ) (first : Bool) (before : List Said) (kind : ℕ) (s : InForce) (m : Message) (a : Asked) → Heeds memory (join_asked count first before kind s m a)
asked_heeds count first before kind s m Bad = tt
asked_heeds count first before kind s m Nothing = within_heeds (nat_le MAX_TOPICS count) _ _ tt (subscribes_heeds (Some first) before kind s m empty)
asked_heeds count first before kind s m (Wants key meta) = within_heeds (nat_le MAX_TOPICS count) _ _ tt (tracks_heeds first before kind s m key meta)

join_heeds : (count kind : ℕ) (s : InForce) (j : Option Joined) (m : Message) (a : Asked) → Heeds memory (on_join count kind s j m a)
join_heeds count kind s None m a = asked_heeds count true [] kind s m a
join_heeds count kind s (Some j) m a = ended_heeds m.topic j.sub _ (asked_heeds (count - 1) false (message (closing j.join_ref m.topic) ∷ []) kind (left s m.topic) m a)

route_heeds : (count : ℕ) (s : InForce) (j : Option Joined) (m : Message) (route : Option ℕ) → Heeds memory (by_route count s j m route)
route_heeds count s j m None = tt
route_heeds count s j m (Some kind) = join_heeds count kind s j m (asked m.payload)

kind_heeds : (phoenix : Bool) (route : Option ℕ) (count : ℕ) (s : InForce) (j : Option Joined) (m : Message) (kind : EventKind) → Heeds memory (by_kind phoenix route count s j m kind)
kind_heeds phoenix route count s j m kinds_are.Heartbeat = within_heeds phoenix _ _ tt (topic_heeds s j m events_are.Unknown)
kind_heeds phoenix route count s j m kinds_are.Join = route_heeds count s j m route
kind_heeds phoenix route count s j m kinds_are.Leave = leave_heeds s j m
kind_heeds phoenix route count s j m (kinds_are.Topic event) = topic_heeds s j m event

pub rules_heed : (routes : List (List ℕ × ℕ)) (s : InForce) (m : Message) → Heeds memory (rules routes s m)
unfolding rules
rules_heed routes s m = kind_heeds (is_phoenix m.topic) (route_of (is_phoenix m.topic) routes m.topic) (length s.joined) s (find m.topic s.joined) m (kind_of m.event)

-- ---- deliveries

frames_heed : (j : Joined) (before : List Said) (next : List Said → Script End) → ((said : List Said) → Heeds memory (next said)) → (a : Result (List Item) Refusal) → Heeds memory (then_told j before next a)
frames_heed j before next h (Ok items) = h _
frames_heed j before next h (Err e) = tt

take_heeds : (max : ℕ) (j : Joined) (before : List Said) (next : List Said → Script End) → ((said : List Said) → Heeds memory (next said)) → (a : Result Bool Refusal) → Heeds memory (then_take max j before next a)
take_heeds max j before next h (Ok true) = (refl, frames_heed j before next h)
take_heeds max j before next h (Ok false) = h before
take_heeds max j before next h (Err e) = tt

pub delivers_heed : (max : ℕ) (s : InForce) (js : List Joined) (before : List Said) → Heeds memory (delivers max s js before)
delivers_heed max s [] before = tt
delivers_heed max s (j ∷ js) before = (refl, take_heeds max j before (delivers max s js) (delivers_heed max s js))
