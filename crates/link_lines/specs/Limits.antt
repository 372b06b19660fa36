-- The limits of lines.
use Rattle.std.specs.Prelude.{◌≡◌, ℕ, List, Bool, true, false, ◌&&◌, nat_le, nat_lt, nat_eq, length, is_some, is_none, Option, Some, None}
use Rattle.std.specs.List.{list_all}
use Rattle.serde_json.specs.Find.{as_object}
use Rattle.presence_base.specs.declared.dots.TheConstants.{MAX_COUNT}
use Rattle.presence_base.specs.declared.dots.Replica.{Replica}
use Rattle.presence_base.specs.declared.dots.Dot.{Dot}
use Rattle.presence_base.specs.declared.row.Row.{Row}
use Rattle.presence_base.specs.Names.{is_node_name}
use Rattle.presence_base.specs.Metas.{is_meta}
use Rattle.orswot_core.specs.Telling.{Range, ToldValue}
use Rattle.orswot_core.specs.declared.form.Form.{Form}
use Rattle.orswot_core.specs.declared.form.Form.TheVariants.{One, Two}
use Rattle.orswot_core.specs.Checks.{first_fault}
use Rattle.link_lines.specs.declared.lines.Line.{Line}
use Rattle.link_lines.specs.declared.lines.Line.TheVariants as lines_are
use Rattle.presence_base.specs.declared.names.TheConstants.{MAX_SHARDS}
use Rattle.link_lines.specs.declared.lines.TheConstants.{MAX_LINE_BYTES}
use Rattle.link_lines.specs.declared.hearer.Hearer.{Hearer}
use Rattle.link_lines.specs.declared.hearer.Telling.{Telling}
use Rattle.link_lines.specs.Told.{is_delta_of}

-- the limits, which the other definitions cite by their names
pub record LimitsAreThese : Type 0 where
  pub line_bytes : MAX_LINE_BYTES ≡ 4194304
  pub shards : MAX_SHARDS ≡ 4

abbrev pub is_from_to : ℕ → ℕ → ℕ → Bool
is_from_to low high n = nat_le low n && nat_le n high

-- an incarnation or a dot's count; where a range begins or ends, or a count that may be none
abbrev pub is_counted : ℕ → Bool
is_counted n = is_from_to 1 MAX_COUNT n

abbrev pub is_bound : ℕ → Bool
is_bound n = is_from_to 0 MAX_COUNT n

abbrev pub is_replica : Replica → Bool
is_replica r = is_node_name r.name && is_counted r.incarnation

abbrev pub is_told_range : Range → Bool
is_told_range g = is_replica g.0 && (is_bound g.1 && is_bound g.2)

abbrev pub is_told_dot : Dot → Bool
is_told_dot d = is_replica d.replica && is_counted d.count

abbrev pub is_told_prev : Option Dot → Bool
is_told_prev None = true
is_told_prev (Some d) = is_told_dot d

abbrev pub is_told_row : Dot × Row → Bool
is_told_row x = is_told_dot x.0 && (is_some (as_object x.1.meta) && is_told_prev x.1.prev)

-- what a line can say of a shard, whatever else is wrong with it
abbrev pub is_told : ToldValue → Bool
is_told t = list_all is_told_range t.ranges && (list_all is_told_dot t.extras && list_all is_told_row t.live)

-- the second form has no extras
abbrev pub has_form : Form → ToldValue → Bool
has_form One t = true
has_form Two t = nat_eq (length t.extras) 0

-- this is the form in which the hearer is told
abbrev pub is_form : Option Form → Form → Bool
is_form (Some One) One = true
is_form (Some Two) Two = true
is_form _ _ = false

-- it is told in the hearer's form, and nothing is wrong with it for this one of the hearer's shards
abbrev pub is_sound : ℕ → Hearer → Telling → Bool
is_sound k h t = is_form h.form t.form
    && (has_form t.form t.told && (is_told t.told && is_none (first_fault k h.shards t.form t.told)))

abbrev pub is_delta : ℕ → Hearer → Replica → Option Telling → Bool
is_delta k h r None = true
is_delta k h r (Some t) = is_delta_of t.form r t.told && is_sound k h t

abbrev pub is_version : Option ℕ → Bool
is_version None = true
is_version (Some v) = is_counted v

-- a line that may come to this hearer
abbrev pub is_within : Hearer → Line → Bool
is_within h (lines_are.Hello r k v) = is_replica r && (is_from_to 1 MAX_SHARDS k && is_version v)
is_within h (lines_are.Beat k r c t) = nat_lt k h.shards && (is_replica r && (is_bound c && is_delta k h r t))
is_within h (lines_are.Want k r c) = nat_lt k h.shards && (is_replica r && is_bound c)
is_within h (lines_are.Told k t) = nat_lt k h.shards && is_sound k h t
is_within h (lines_are.PermDown r) = is_replica r
is_within h (lines_are.Gone r) = is_replica r
is_within h lines_are.Ok = true

-- the metas of what a line tells are within their limits
abbrev pub are_metas : List (Dot × Row) → Bool
are_metas rows = list_all (λ x. is_meta x.1.meta) rows

abbrev pub delta_metas : Option Telling → Bool
delta_metas None = true
delta_metas (Some t) = are_metas t.told.live

abbrev pub has_metas : Line → Bool
has_metas (lines_are.Beat k r c t) = delta_metas t
has_metas (lines_are.Told k t) = are_metas t.told.live
has_metas _ = true
