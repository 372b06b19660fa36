-- The limits of dots, rows and ranges.
use Rattle.std.specs.Prelude.{ℕ, ◌%◌, Bool, true, ◌&&◌, nat_le, nat_eq, sum, Option, Some, None}
use Rattle.presence_base.specs.declared.dots.TheConstants.{MAX_COUNT}
use Rattle.presence_base.specs.declared.dots.Replica.{Replica}
use Rattle.presence_base.specs.declared.dots.Dot.{Dot}
use Rattle.presence_base.specs.declared.row.Row.{Row}
use Rattle.presence_base.specs.Names.{is_short_text}
use Rattle.presence_base.specs.Metas.{is_meta}

-- an incarnation or a count
abbrev pub is_count : ℕ → Bool
is_count n = nat_le 1 n && nat_le n MAX_COUNT

abbrev pub is_dot : Dot → Bool
is_dot d = is_count d.replica.incarnation && is_count d.count

abbrev pub is_prev : Option Dot → Bool
is_prev None = true
is_prev (Some d) = is_dot d

-- the numbers of a row: its pid, and the dot of the row that it replaced
abbrev pub is_row : Row → Bool
is_row r = nat_le r.pid MAX_COUNT && is_prev r.prev

-- its texts and its meta, whose limits a row's type keeps
abbrev pub are_texts : Row → Bool
are_texts r = is_short_text r.topic && (is_short_text r.key && is_meta r.meta)

-- whether the row's topic is on this one of n shards
abbrev pub is_on_shard : ℕ → ℕ → Row → Bool
is_on_shard shard n r = nat_eq (sum r.topic % n) shard

abbrev pub is_range : Replica × ℕ × ℕ → Bool
is_range g = is_count g.0.incarnation && (nat_le g.1 MAX_COUNT && nat_le g.2 MAX_COUNT)
