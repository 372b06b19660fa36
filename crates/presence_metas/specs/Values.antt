-- The objects that tell presences.
use Rattle.std.specs.Prelude.{◌≡◌, ℕ, List, map, false, codes}
use Rattle.std.specs.List.{fold, AllByRecursion}
use Rattle.serde_json.specs.Data.{Data, array, object, Members, no_members, member, put as put_member}
use Rattle.serde_json.specs.View.{items_of}
use Rattle.serde_json.specs.Written.{has_float}
use Rattle.presence_base.specs.declared.dots.Dot.{Dot}
use Rattle.presence_base.specs.declared.row.Row.{Row}
use Rattle.presence_metas.specs.declared.tracked.TrackedMeta.{TrackedMeta}
use Rattle.presence_metas.specs.Listing.{Listing}
use Rattle.presence_metas.specs.Rows.{listing_of}

-- what is told of a key
abbrev pub metas_value : List TrackedMeta → Data
metas_value ts = object (member (codes "metas") (array (items_of (map (λ t. t.meta) ts))) no_members)

abbrev pub with_key : Members → List ℕ × List TrackedMeta → Members
with_key ms e = put_member e.0 (metas_value e.1) ms

-- the object from keys to their metas
abbrev pub listing_value : Listing → Data
listing_value ls = object (fold with_key no_members ls)

-- the metas hold no number that isn't a whole one of 64 bits
abbrev pub AreWhole : List TrackedMeta → Type 0
AreWhole ts = AllByRecursion (λ t. has_float t.meta ≡ false) ts

abbrev pub AllWhole : Listing → Type 0
AllWhole ls = AllByRecursion (λ e. AreWhole e.1) ls

-- the object that tells the rows of a topic
abbrev pub state_of : List (Dot × Row) → Data
state_of rows = listing_value (listing_of rows)

-- the object of what joined and what left
abbrev pub diff_object_of : Data → Data → Data
diff_object_of joins leaves = object (member (codes "joins") joins (member (codes "leaves") leaves no_members))

-- the object that tells which rows came and which went
abbrev pub diff_of : List (Dot × Row) → List (Dot × Row) → Data
diff_of joins leaves = diff_object_of (state_of joins) (state_of leaves)
