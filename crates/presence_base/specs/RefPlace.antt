-- Where the references of a row go in the compact text of its meta, whose members are written in order of their names.
use Rattle.std.specs.Prelude.{ℕ, ◌-◌, length, Bool, true, if◌then◌else◌, Option, Some, None, codes}
use Rattle.std.specs.Ordering.{match_ordering, is_lt}
use Rattle.serde_json.specs.Data.{Data, object, Members, no_members, member}
use Rattle.serde_json.specs.Written.{compact_text}
use Rattle.presence_base.specs.Order.{text_cmp}

-- the members before `phx_ref`
abbrev pub members_before : Members → Members
members_before no_members = no_members
members_before (member l d ms) = match_ordering (text_cmp (codes "phx_ref") l) no_members no_members (member l d (members_before ms))

-- those from there on
abbrev pub members_from : Members → Members
members_from no_members = no_members
members_from (member l d ms) = match_ordering (text_cmp (codes "phx_ref") l) (member l d ms) (member l d ms) (members_from ms)

-- whether the first of them, where there is one, is behind `phx_ref_prev`
abbrev pub begin_behind : Members → Bool
begin_behind no_members = true
begin_behind (member l d ms) = is_lt (text_cmp (codes "phx_ref_prev") l)

-- how long the text of the members before both references is, their object not closed; None where a name lies between
-- the two
unfoldable pub ref_place : Data → Option ℕ
ref_place (object ms) = if begin_behind (members_from ms) then Some (length (compact_text (object (members_before ms))) - 1) else None
ref_place _ = None
