-- The lists that rows make.
use Rattle.std.specs.Prelude.{◌≡◌, ℕ, String, List, [], ◌∷◌, ◌++◌, Option, Some, None, codes}
use Rattle.std.specs.Global.{Global}
use Rattle.std.specs.List.{fold}
use Rattle.serde_json.specs.Data.{Data, string, object, Members, no_members, put as put_member}
use Rattle.serde_json.specs.View.{members_view}
use Rattle.serde_json.specs.declared.value.Value.{Value}
use Rattle.presence_base.specs.Refs.{ref_of}
use Rattle.presence_base.specs.declared.dots.Dot.{Dot}
use Rattle.presence_base.specs.declared.row.Row.{Row}
use Rattle.presence_metas.specs.declared.tracked.TrackedMeta.{TrackedMeta}
use Rattle.presence_metas.specs.Listing.{Listing, at, put}

abbrev pub members_in : Data → Members
members_in (object ms) = ms
members_in _ = no_members

-- the entries hold the members of others, and this one
abbrev pub IsPut : List ℕ → Data → List (String Global × Value) → List (String Global × Value) → Type 0
IsPut name d old new = members_view new ≡ put_member name d (members_view old)

-- `phx_ref_prev` where the row replaced another
abbrev pub with_prev : Option Dot → Members → Members
with_prev None ms = ms
with_prev (Some d) ms = put_member (codes "phx_ref_prev") (string (ref_of d)) ms

-- a row's meta with its reference
abbrev pub tracked_of : Dot → Row → TrackedMeta
tracked_of d r = record {
  reference = ref_of d;
  meta = object (with_prev r.prev (put_member (codes "phx_ref") (string (ref_of d)) (members_in r.meta)));
}

-- each row's meta follows those of its key
abbrev pub add_row : Listing → Dot × Row → Listing
add_row ls p = put ls p.1.key (at ls p.1.key ++ tracked_of p.0 p.1 ∷ [])

unfoldable pub listing_of : List (Dot × Row) → Listing
listing_of rows = fold add_row [] rows
