-- The end of a session, topic by topic.
use Rattle.std.specs.Prelude.{◌≡◌, ◌++◌, ℕ, List, [], ◌∷◌, Bool, true, false, Option, Some, None, map, option_to_list, Result, Ok, Err}
use Rattle.tracker_shard.specs.declared.shard.Sub.{Sub}
use Rattle.tracker_shard.specs.declared.fault.ShardFault.TheVariants as faults
use Rattle.channel_rules.specs.declared.refusal.Refusal.{Refusal}
use Rattle.channel_rules.specs.declared.refusal.Refusal.TheVariants.{Table}
use Rattle.channel_rules.specs.Asks.{Ask, Answer, Call, Made, unsubscribe, untrack_all}
use Rattle.channel_rules.specs.Script.{Script, done, ask, Plays}
use Rattle.channel_rules.specs.InForce.{InForce, Joined}
use Rattle.channel_session.specs.declared.fault.SessionFault.{SessionFault}
use Rattle.channel_session.specs.declared.fault.SessionFault.TheVariants.{OutOfMemory, ShardFull}

-- the topics in force, in order of joining, and then the one whose join was cut short
abbrev pub topics_named : InForce → List (List ℕ)
topics_named s = map (λ j. j.topic) s.joined ++ option_to_list s.cut_short

-- From the one port to the other just the calls of the script were made, and they led to this end.
pub record Played {P E : Type 0} (step : P → (q : Ask) → Answer q → P → Type 0) (script : Script E) (old new : P)
    (end : E) : Type 0 where
  pub made : List Call
  pub calls : Made step old made new
  pub plays : Plays script made end

-- the session that is left, and the first refusal
pub record Ended : Type 0 where
  pub after : InForce
  pub answer : Result (Unit {0}) Refusal

-- what comes of these topics staying, and of this answer
abbrev pub Leaving : Type 0
Leaving = List Joined → Result (Unit {0}) Refusal → Ended

-- whether it tells that the port has no such subscriber
abbrev pub is_unknown : Refusal → Bool
is_unknown (Table faults.NoSub) = true
is_unknown _ = false

-- an unknown subscriber counts as gone
abbrev pub then_rows : List ℕ → (Result (Unit {0}) Refusal → Script Ended) → Result (Unit {0}) Refusal
    → Script Ended
then_rows topic next (Ok u) = ask (untrack_all topic) next
then_rows topic next (Err (Table faults.NoSub)) = ask (untrack_all topic) next
then_rows topic next (Err e) = next (Err e)

-- both calls for a topic; where the first is refused, the second isn't made
abbrev pub ends_topic : List ℕ → Sub → (Result (Unit {0}) Refusal → Script Ended) → Script Ended
ends_topic topic sub next = ask (unsubscribe topic sub) (then_rows topic next)

-- a refused topic stays before those behind it, and its refusal is the first
abbrev pub staying : Joined → Result (Unit {0}) Refusal → Leaving → Leaving
staying j (Ok u) leaving = leaving
staying j (Err e) leaving = λ js a. leaving (j ∷ js) (Err e)

-- both calls for each topic, in order of joining, whatever the others were answered
abbrev pub ends_topics : Leaving → List Joined → Script Ended
ends_topics leaving [] = done (leaving [] (Ok tt))
ends_topics leaving (j ∷ js) = ends_topic j.topic j.sub (λ r. ends_topics (staying j r leaving) js)

-- These topics were ended, these of them stay, and this was answered; whatever comes of it.
abbrev pub EndsTopics : {P : Type 0} → (P → (q : Ask) → Answer q → P → Type 0) → List Joined → List Joined → P → P
    → Result (Unit {0}) Refusal → Type 0
EndsTopics step js staying old new r =
    (leaving : Leaving) → Played step (ends_topics leaving js) old new (leaving staying r)

-- Both calls for a topic: whatever follows them is made from here on.
abbrev pub Gone : {P : Type 0} → (P → (q : Ask) → Answer q → P → Type 0) → List ℕ → Sub → P → P
    → Result (Unit {0}) Refusal → Type 0
Gone {P} step topic sub old new r =
    (next : Result (Unit {0}) Refusal → Script Ended) (last : P) (e : Ended) → Played step (next r) new last e
    → Played step (ends_topic topic sub next) old last e

-- a session whose end was refused has failed
abbrev pub failed_by : Bool → Result (Unit {0}) Refusal → Bool
failed_by failed (Ok u) = failed
failed_by failed (Err e) = true

-- the session but for its topics: it has failed where one stays
pub record Keeps (s after : InForce) (a : Result (Unit {0}) Refusal) : Type 0 where
  pub pid : after.pid ≡ s.pid
  pub failed : after.failed ≡ failed_by s.failed a
  pub cut_short : after.cut_short ≡ s.cut_short

abbrev pub left_with : InForce → Option (List ℕ) → Leaving
left_with s named js a =
    record { after = record { pid = s.pid; failed = failed_by s.failed a; joined = js; cut_short = named }; answer = a }

-- The topic of a join that was cut short stays named where its rows did, and its refusal is the first.
abbrev pub then_topics : InForce → List ℕ → Result (Unit {0}) Refusal → Script Ended
then_topics s t (Ok u) = ends_topics (left_with s None) s.joined
then_topics s t (Err e) = ends_topics (λ js a. left_with s (Some t) js (Err e)) s.joined

-- The rows of a join that was cut short go first: it has no subscriber.
abbrev pub ends_cut_short : InForce → Option (List ℕ) → Script Ended
ends_cut_short s None = ends_topics (left_with s None) s.joined
ends_cut_short s (Some t) = ask (untrack_all t) (then_topics s t)

abbrev pub ends : InForce → Script Ended
ends s = ends_cut_short s s.cut_short

-- the fault of a refusal
abbrev pub fault_of_refusal : Refusal → SessionFault
fault_of_refusal (Table faults.OutOfMemory) = OutOfMemory
fault_of_refusal _ = ShardFull

abbrev pub ended_as : Result (Unit {0}) Refusal → Result (Unit {0}) SessionFault
ended_as (Ok u) = Ok u
ended_as (Err e) = Err (fault_of_refusal e)

-- The calls of the end were made: this session is left, and this answered.
pub record EndedBy {P : Type 0} (step : P → (q : Ask) → Answer q → P → Type 0) (s : InForce) (old new : P)
    (after : InForce) (result : Result (Unit {0}) SessionFault) : Type 0 where
  pub answer : Result (Unit {0}) Refusal
  pub played : Played step (ends s) old new (record { after = after; answer = answer })
  pub answer_is : result ≡ ended_as answer
