-- Rows of any kind, found by their places.
use Rattle.std.specs.Prelude.{◌≡◌, ℕ, cond, List, [], ◌∷◌, Option, Some}
use Rattle.std.specs.BTreeMap.{get}
use Rattle.presence_base.specs.declared.dots.Dot.{Dot}
use Rattle.presence_base.specs.declared.row.Row.{Row}
use Rattle.presence_journal.specs.declared.rows.Place.{Place}
use Rattle.presence_journal.specs.Present.{RowMap, of_topic, in_order}
use Rattle.presence_journal.specs.Walk.{keyed, IsTableOf}
use Rattle.tracker_shown.specs.Turns.{IsListOf}
use Rattle.tracker_shown.specs.declared.stand.Stand.{Stand}
use Rattle.tracker_shown.specs.declared.stand.Holder.TheVariants.{Room}
use Rattle.tracker_shown.specs.declared.placed.Placed.{Placed}
use Rattle.tracker_shown.specs.Stands.{stand_cmp, same_stand, stand_of}
use Rattle.tracker_shown.specs.Kept.{Kept, kept_at}

-- what is kept at a stand once these rows are put in, one after another
abbrev pub place_all : List (Dot × Row) → Stand → Option Row → Option Row
place_all [] q now = now
place_all (x ∷ xs) q now = place_all xs q (cond (same_stand (stand_of Room x.0 x.1) q) (Some x.1) now)

abbrev pub PlacesAll : List (Dot × Row) → Kept → Kept → Type 0
PlacesAll xs m n = (q : Stand) → get stand_cmp n q ≡ place_all xs q (get stand_cmp m q)

-- the rows that f gives, each at its place
abbrev pub IsPlacedOf : (Dot → Option Row) → Placed → Type 0
IsPlacedOf f x = (t : List ℕ) (p : Place) → kept_at x.rows Room t p ≡ keyed p.key (of_topic t (f p.dot))

-- the rows of a list
abbrev pub IsOfRows : List (Dot × Row) → Placed → Type 0
IsOfRows xs x = (f : Dot → Option Row) → IsListOf f xs → IsPlacedOf f x

-- those of a topic, in order
abbrev pub ListsPlaced : Placed → List ℕ → List (Dot × Row) → Type 0
ListsPlaced x t v =
    (f : Dot → Option Row) (m : RowMap)
    → IsPlacedOf f x → IsTableOf (λ d. of_topic t (f d)) m → v ≡ in_order m
