-- A value that is small enough, and what is held of an object's members while it is read.
use Rattle.std.specs.Prelude.{◌≡◌, ◌≤◌, ◌<◌, ◌+◌, ℕ, suc, Bool, true, false, not, ◌&&◌, nat_le, List, [], ◌∷◌, length, Option, Some, None, option_map, String, string_bytes, Result, Ok, Err, ⊤}
use Rattle.std.specs.declared.alloc.Global.{Global}
use Rattle.json.specs.Token.{Token}
use Rattle.json.specs.Json as json
use Rattle.json.specs.declared.error.Error.{Error}
use Rattle.json.specs.declared.error.Error.TheVariants.{OutOfMemory}
use Rattle.serde_json.specs.Data.{Data, object, Items, no_items, item, Members, no_members, member, depth}
use Rattle.serde_json.specs.Read.{read}
use Rattle.serde_json.specs.View.{view}
use Rattle.serde_json.specs.Written.{has_float, compact_text}
use Rattle.presence_base.specs.Metas.{is_meta}
use Rattle.presence_base.specs.Names.{guarded}
use Rattle.presence_base.specs.declared.meta.TheConstants.{MAX_META_BYTES}
use Rattle.json_parts.specs.Places.{data_of, items_data, AtItems}
use Rattle.json_parts.specs.declared.small.Held.{Held}
use Rattle.json_parts.specs.declared.small.Held.TheVariants as held
use Rattle.json_parts.specs.declared.small.Part as declared

-- a value without floats whose compact text is of at most 16,384 bytes, and that nests at most so deep
abbrev pub is_small : ℕ → Data → Bool
is_small limit d = nat_le (depth d) limit && (not (has_float d) && nat_le (length (compact_text d)) MAX_META_BYTES)

-- a value, and a number of bytes that its compact text has at least
abbrev pub Part : Type 0
Part = Data × ℕ

-- such a part was read, or the value isn't small
abbrev pub IsPart : ℕ → Data → Option Part → Type 0
IsPart limit d None = is_small limit d ≡ false
IsPart limit d (Some p) = (p.0 ≡ d) × (depth d ≤ limit) × (p.1 ≤ length (compact_text d))

abbrev pub part_view : declared.Part → Part
part_view p = (view p.value, p.values)

-- the part that is held of a member, or none where it is too large
abbrev pub part_in : Held → Option Part
part_in (held.Plain v n) = Some (view v, n)
part_in (held.Text s n) = option_map (λ d. (d, n)) (read (string_bytes s))
part_in held.TooLarge = None

-- a part's value was counted off the bytes that were left, one more for the byte that parts it from the next; or they don't do
abbrev pub IsTaken : Option Part → ℕ → ℕ → Option Data → Type 0
IsTaken None old new o = o ≡ None
IsTaken (Some p) old new None = old ≤ p.1
IsTaken (Some p) old new (Some d) = (p.0 ≡ d) × (old ≡ new + (p.1 + 1))

abbrev pub Entry : Type 0
Entry = String Global × Held

-- these are held as parts of the members, each under its key
abbrev pub HoldsAll : ℕ → List Entry → Members → Type 0
HoldsAll limit [] no_members = ⊤
HoldsAll limit (e ∷ es) (member k d ms) = (string_bytes e.0 ≡ k) × IsPart limit d (part_in e.1) × HoldsAll limit es ms
HoldsAll limit es ms = ⊥

abbrev pub is_object : Data → Bool
is_object (object ms) = true
is_object _ = false

abbrev pub no_object_first : Items → Bool
no_object_first no_items = true
no_object_first (item d ds) = not (is_object d)

-- the next item of an array is an object, and was read: its meta, where it is one
abbrev pub IsNextMeta : json.Items → List Token → List Token → Result (Option (Option Data)) Error → Type 0
IsNextMeta js rest new (Ok None) = no_object_first (items_data js) ≡ true
IsNextMeta js rest new (Ok (Some m)) =
    (j : json.Json) × (more : json.Items) × (js ≡ json.item j more) × (is_object (data_of j) ≡ true)
    × (m ≡ guarded (is_meta (data_of j)) (data_of j)) × AtItems new more rest
IsNextMeta js rest new (Err e) = e ≡ OutOfMemory
