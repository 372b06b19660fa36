-- What lists, objects and frames hold, key by key; and that the frames that rows make are read as these rows.
use Rattle.std.specs.Prelude.{◌≡◌, ℕ, List, [], ◌∷◌, map, Option, Some, None, Ok, codes}
use Rattle.std.specs.List.{filter}
use Rattle.std.specs.Str.{bytes_eq}
use Rattle.serde_json.specs.Data.{Data, array, Members, no_members, member}
use Rattle.serde_json.specs.Find.{get, get_member}
use Rattle.serde_json.specs.View.{items_of}
use Rattle.phx_message.specs.declared.message.Message.{Message}
use Rattle.presence_base.specs.declared.dots.Dot.{Dot}
use Rattle.presence_base.specs.declared.row.Row.{Row}
use Rattle.presence_metas.specs.declared.frame.Frame.TheVariants as frame_is
use Rattle.presence_metas.specs.declared.tracked.TrackedMeta.{TrackedMeta}
use Rattle.presence_metas.specs.declared.presences.Diff.{Diff}
use Rattle.presence_metas.specs.Listing.{Listing, at}
use Rattle.presence_metas.specs.Rows.{members_in, tracked_of, listing_of}
use Rattle.presence_metas.specs.Values.{metas_value, state_of, diff_of}
use Rattle.presence_metas.specs.Frames.{AllNamed, frame_in}

abbrev pub StatesReadBack : Type 0
StatesReadBack = (m : Message) (rows : List (Dot × Row)) → m.event ≡ codes "presence_state" → m.payload ≡ state_of rows
    → frame_in m ≡ Ok (frame_is.State (listing_of rows))

abbrev pub DiffsReadBack : Type 0
DiffsReadBack =
    (m : Message) (joins leaves : List (Dot × Row)) → m.event ≡ codes "presence_diff" → m.payload ≡ diff_of joins leaves
    → frame_in m ≡ Ok (frame_is.Diff (record { joins = listing_of joins; leaves = listing_of leaves }))

-- ---- rows

-- the metas of the rows of a key, in their order
abbrev pub metas_of_key : List ℕ → List (Dot × Row) → List TrackedMeta
metas_of_key k rows = map (λ p. tracked_of p.0 p.1) (filter (λ p. bytes_eq k p.1.key) rows)

-- the lists of rows have at each key the metas of its rows
abbrev pub RowsByKey : Type 0
RowsByKey = (rows : List (Dot × Row)) (k : List ℕ) → at (listing_of rows) k ≡ metas_of_key k rows

-- what is told of a key with these metas: nothing where there are none
abbrev pub told_of : List TrackedMeta → Option Data
told_of [] = None
told_of (t ∷ ts) = Some (metas_value (t ∷ ts))

-- a state's members are the keys of its rows, each with the metas of its rows
abbrev pub StatesByKey : Type 0
StatesByKey = (rows : List (Dot × Row)) (k : List ℕ) → get k (state_of rows) ≡ told_of (metas_of_key k rows)

-- ---- frames

-- no two members have one name
abbrev pub NamesDiffer : Members → Type 0
NamesDiffer no_members = Unit {0}
NamesDiffer (member k d ms) = (get_member k ms ≡ None) × NamesDiffer ms

-- the metas are those that a key's object has as `metas`, each with its reference; without an object there are none
abbrev pub AreMetasOf : Option Data → List TrackedMeta → Type 0
AreMetasOf None ts = ts ≡ []
AreMetasOf (Some d) ts = (get (codes "metas") d ≡ Some (array (items_of (map (λ t. t.meta) ts)))) × AllNamed ts

-- what an object from keys to metas is read as has at each key the metas of this key
abbrev pub IsReadByKey : Data → Listing → Type 0
IsReadByKey d ls = NamesDiffer (members_in d) → (k : List ℕ) → AreMetasOf (get k d) (at ls k)

abbrev pub StatesAreRead : Type 0
StatesAreRead =
    (m : Message) (ls : Listing) → m.event ≡ codes "presence_state" → frame_in m ≡ Ok (frame_is.State ls)
    → IsReadByKey m.payload ls

abbrev pub DiffsAreRead : Type 0
DiffsAreRead =
    (m : Message) (d : Diff) (joins leaves : Data) → m.event ≡ codes "presence_diff" → frame_in m ≡ Ok (frame_is.Diff d)
    → get (codes "joins") m.payload ≡ Some joins → get (codes "leaves") m.payload ≡ Some leaves
    → IsReadByKey joins d.joins × IsReadByKey leaves d.leaves
