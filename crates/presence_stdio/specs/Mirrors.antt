-- The clients' lists that frames are folded into, one for each topic, and the object that they are printed as.
use Rattle.std.specs.Prelude.{ℕ, List, [], ◌∷◌, ◌++◌, unwrap_or}
use Rattle.std.specs.List.{fold}
use Rattle.std.specs.Map.{lookup, remove_entry}
use Rattle.std.specs.BTreeMap.{is_at, insert_entry}
use Rattle.serde_json.specs.Data.{Data, object, Members, no_members, put as put_member}
use Rattle.serde_json.specs.Written.{compact_text}
use Rattle.presence_base.specs.Order.{text_cmp}
use Rattle.presence_metas.specs.declared.frame.Frame.{Frame}
use Rattle.presence_metas.specs.Listing.{Listing}
use Rattle.presence_metas.specs.Fold.{after_frame}
use Rattle.presence_metas.specs.Values.{listing_value}

-- topics in order of their bytes, each with its client's lists
abbrev pub Mirrors : Type 0
Mirrors = List (List ℕ × Listing)

-- what is held of a topic: nothing before its first frame
abbrev pub held : Mirrors → List ℕ → Listing
held ms t = unwrap_or (lookup (is_at (text_cmp t)) ms) []

abbrev pub without_topic : Mirrors → List ℕ → Mirrors
without_topic ms t = remove_entry (is_at (text_cmp t)) ms

-- a frame is folded into the lists of its topic, and the others stay
abbrev pub with_frame : Mirrors → List ℕ → Frame → Mirrors
with_frame ms t f = insert_entry text_cmp (without_topic ms t) t (after_frame (held ms t) f)

-- ---- how they are printed

abbrev pub with_topic : Members → List ℕ × Listing → Members
with_topic members e = put_member e.0 (listing_value e.1) members

-- the object from topic to map
abbrev pub mirrors_value : Mirrors → Data
mirrors_value ms = object (fold with_topic no_members ms)

-- its text with a line feed behind it
abbrev pub mirrors_text : Mirrors → List ℕ
mirrors_text ms = compact_text (mirrors_value ms) ++ 10 ∷ []
