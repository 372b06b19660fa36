-- What may be told of a key beside its metas.
use Rattle.std.specs.Prelude.{ℕ, List, [], ◌∷◌, length, Bool, true, not, ◌&&◌, nat_le, codes, string_bytes, String, Option}
use Rattle.std.specs.Global.{Global}
use Rattle.std.specs.List.{list_any, list_all}
use Rattle.std.specs.Str.{bytes_eq}
use Rattle.serde_json.specs.Data.{Data, Members, no_members, member, put, depth}
use Rattle.serde_json.specs.Events.{members_len}
use Rattle.serde_json.specs.View.{view}
use Rattle.serde_json.specs.Written.{has_float}
use Rattle.serde_json.specs.declared.value.Value.{Value}
use Rattle.presence_base.specs.Names.{guarded}
use Rattle.hook_registry.specs.declared.extra.TheConstants.{MAX_EXTRA_MEMBERS, MAX_EXTRA_NAME_BYTES, MAX_EXTRA_VALUE_DEPTH}

-- a name of 1 to 64 bytes other than `metas`, with a value at most 32 deep whose numbers are whole ones of 64 bits
abbrev pub is_extra_member : List ℕ → Data → Bool
is_extra_member name d =
    nat_le 1 (length name) && nat_le (length name) MAX_EXTRA_NAME_BYTES && not (bytes_eq name (codes "metas"))
    && nat_le (depth d) MAX_EXTRA_VALUE_DEPTH && not (has_float d)

-- ---- members as they are given, one after the other

-- a member's name and value
abbrev pub given_member : String Global × Value → List ℕ × Data
given_member p = (string_bytes p.0, view p.1)

abbrev pub are_extra_members : List (List ℕ × Data) → Bool
are_extra_members ps = list_all (λ p. is_extra_member p.0 p.1) ps

abbrev pub has_name : List (List ℕ × Data) → List ℕ → Bool
has_name ps name = list_any (λ p. bytes_eq p.0 name) ps

-- no two have one name
abbrev pub names_differ : List (List ℕ × Data) → Bool
names_differ [] = true
names_differ (p ∷ ps) = not (has_name ps p.0) && names_differ ps

-- at most 16, each within the limits and with a name of its own
abbrev pub are_extra : List (List ℕ × Data) → Bool
are_extra ps = nat_le (length ps) MAX_EXTRA_MEMBERS && are_extra_members ps && names_differ ps

-- ---- members in the order of their names

abbrev pub gathered_into : Members → List (List ℕ × Data) → Members
gathered_into ms [] = ms
gathered_into ms (p ∷ ps) = gathered_into (put p.0 p.1 ms) ps

abbrev pub gathered : List (List ℕ × Data) → Members
gathered ps = gathered_into no_members ps

abbrev pub all_extra_members : Members → Bool
all_extra_members no_members = true
all_extra_members (member k d ms) = is_extra_member k d && all_extra_members ms

-- at most 16, each within the limits
abbrev pub is_extra : Members → Bool
is_extra ms = nat_le (members_len ms) MAX_EXTRA_MEMBERS && all_extra_members ms

-- the extra that these members are, if they are one
abbrev pub extra_of : List (List ℕ × Data) → Option Members
extra_of ps = guarded (are_extra ps) (gathered ps)
