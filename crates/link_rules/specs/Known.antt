-- What another node is told that is known of it.
use Rattle.std.specs.Prelude.{ℕ, ◌==◌, cond, Option, Some, None}
use Rattle.presence_base.specs.declared.dots.Replica.{Replica}
use Rattle.presence_base.specs.Order.{same_replica}
use Rattle.link_lines.specs.declared.lines.Line.{Line}
use Rattle.link_lines.specs.declared.lines.Line.TheVariants.{Beat}

-- a beat of its own tells it how far it is known, where it is
abbrev pub known_line : ℕ → Replica → ℕ → Option Line
known_line shard other top = cond (top == 0) None (Some (Beat shard other top None))

-- at which shard a line tells a node how far it is known, where it does
abbrev pub known_in : Replica → Line → Option (ℕ × ℕ)
known_in own (Beat shard replica count delta) = cond (same_replica replica own) (Some (shard, count)) None
known_in own _ = None
