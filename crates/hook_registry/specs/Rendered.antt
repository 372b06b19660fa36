-- What is told of rows where a fetch adds members to each key's object.
use Rattle.std.specs.Prelude.{◌≡◌, ℕ, List, map, IsTrue, codes}
use Rattle.std.specs.List.{fold, AllByRecursion}
use Rattle.serde_json.specs.Data.{Data, array, object, Members, no_members, put}
use Rattle.serde_json.specs.View.{items_of}
use Rattle.presence_base.specs.declared.dots.Dot.{Dot}
use Rattle.presence_base.specs.declared.row.Row.{Row}
use Rattle.presence_metas.specs.declared.tracked.TrackedMeta.{TrackedMeta}
use Rattle.presence_metas.specs.Listing.{Listing}
use Rattle.presence_metas.specs.Rows.{listing_of}
use Rattle.presence_metas.specs.Values.{diff_object_of}
use Rattle.hook_registry.specs.Extras.{is_extra}

-- the members that are told of each key beside its metas
abbrev pub Extras : Type 0
Extras = List ℕ → Members

-- the metas as an object's member `metas`, over the members of an extra
abbrev pub with_metas : List TrackedMeta → Members → Members
with_metas ts ms = put (codes "metas") (array (items_of (map (λ t. t.meta) ts))) ms

-- a key's object: its metas, and beside them the extra's members
abbrev pub key_value : Extras → List ℕ × List TrackedMeta → Data
key_value extras e = object (with_metas e.1 (extras e.0))

-- the object from keys to theirs
abbrev pub listing_with : Extras → Listing → Data
listing_with extras ls = object (fold (λ ms e. put e.0 (key_value extras e) ms) no_members ls)

abbrev pub state_with : Extras → List (Dot × Row) → Data
state_with extras rows = listing_with extras (listing_of rows)

abbrev pub diff_with : Extras → Extras → List (Dot × Row) → List (Dot × Row) → Data
diff_with of_joins of_leaves joins leaves = diff_object_of (state_with of_joins joins) (state_with of_leaves leaves)

-- each key's members are an extra that fetch may answer for it
abbrev pub Fetched : (List ℕ → Members → Type 0) → Extras → Listing → Type 0
Fetched answers extras ls = AllByRecursion (λ e. IsTrue (is_extra (extras e.0)) × answers e.0 (extras e.0)) ls

-- the object of lists with fetched members
abbrev pub RendersListing : (List ℕ → Members → Type 0) → Listing → Data → Type 0
RendersListing answers ls d = (extras : Extras) × Fetched answers extras ls × (d ≡ listing_with extras ls)

-- the state of rows with fetched members
abbrev pub RendersState : (List ℕ → Members → Type 0) → List (Dot × Row) → Data → Type 0
RendersState answers rows d = (extras : Extras) × Fetched answers extras (listing_of rows)
    × (d ≡ state_with extras rows)

-- the diff of rows with fetched members, which may be others for the same key among the joins and among the leaves
abbrev pub RendersDiff : (List ℕ → Members → Type 0) → List (Dot × Row) → List (Dot × Row) → Data → Type 0
RendersDiff answers joins leaves d =
    (of_joins : Extras) × (of_leaves : Extras) × Fetched answers of_joins (listing_of joins)
    × Fetched answers of_leaves (listing_of leaves)
    × (d ≡ diff_with of_joins of_leaves joins leaves)
