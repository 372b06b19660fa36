-- What a session holds.
use Rattle.std.specs.Prelude.{ℕ, List, [], ◌∷◌, ◌++◌, map, Bool, Option, Some, None, if◌then◌else◌}
use Rattle.presence_base.specs.Order.{same_text}
use Rattle.phx_message.specs.declared.message.MsgRef.{MsgRef}
use Rattle.tracker_shard.specs.declared.shard.Sub.{Sub}
use Rattle.channel_rules.specs.declared.topics.Join.{Join}
use Rattle.channel_rules.specs.declared.topics.Topics.{Topics}

-- a topic in force, with its kind and its present join's reference and subscriber
pub record Joined : Type 0 where
  pub topic : List ℕ
  pub kind : ℕ
  pub join_ref : Option MsgRef
  pub sub : Sub

-- a topic with its present join
abbrev pub joined_of : List ℕ × Join → Joined
joined_of e = record { topic = e.0; kind = e.1.kind; join_ref = e.1.join_ref; sub = e.1.sub }

abbrev pub joined_in : Topics → List Joined
joined_in ts = map joined_of ts.joins.entries

pub record InForce : Type 0 where
  pub pid : ℕ
  pub failed : Bool
  -- the topics in force, in order of joining
  pub joined : List Joined
  -- the topic of a join that a fault cut short
  pub cut_short : Option (List ℕ)

abbrev pub find : List ℕ → List Joined → Option Joined
find t [] = None
find t (j ∷ js) = if same_text t j.topic then Some j else find t js

abbrev pub without_topic : List ℕ → List Joined → List Joined
without_topic t [] = []
without_topic t (j ∷ js) = if same_text t j.topic then js else j ∷ without_topic t js

-- the topics in force after a join
abbrev pub added : List Joined → List ℕ → ℕ → Option MsgRef → Option Sub → List Joined
added js t kind r None = js
added js t kind r (Some sub) = js ++ record { topic = t; kind = kind; join_ref = r; sub = sub } ∷ []
