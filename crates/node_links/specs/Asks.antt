-- What a link asks of a node's shards, and what it is answered.
use Rattle.std.specs.Prelude.{ℕ, Option, Result}
use Rattle.presence_base.specs.declared.dots.Replica.{Replica}
use Rattle.orswot_core.specs.declared.form.Form.{Form}
use Rattle.orswot_core.specs.Telling.{ToldValue}
use Rattle.replica_status.specs.declared.status.Status.{Status}
use Rattle.node_links.specs.declared.port.ActFault.{ActFault}

-- a question for each call of a port, to one shard each
pub data Ask : Type 0 where
  status : (shard : ℕ) (replica : Replica) → Ask
  heard : (shard : ℕ) (replica : Replica) (now : ℕ) → Ask
  merge : (shard : ℕ) (told : ToldValue) → Ask
  permdown : (shard : ℕ) (replica : Replica) → Ask
  top : (shard : ℕ) (replica : Replica) → Ask
  told_from : (shard from : ℕ) (form : Form) → Ask
  full : (shard : ℕ) (form : Form) → Ask

-- what is given where a question is accepted: no told value where it has more than a line takes
abbrev pub Given : Ask → Type 0
Given (status k r) = Status
Given (heard k r now) = Unit {0}
Given (merge k t) = Unit {0}
Given (permdown k r) = Unit {0}
Given (top k r) = ℕ
Given (told_from k n form) = Option ToldValue
Given (full k form) = Option ToldValue

abbrev pub Answer : Ask → Type 0
Answer q = Result (Given q) ActFault
