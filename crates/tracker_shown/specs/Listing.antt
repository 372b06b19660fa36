-- The rows between two ends, in order.
use Rattle.std.specs.Prelude.{◌≡◌, ℕ, Bool, true, cond, List, [], ◌∷◌, filter, Option, Some, None}
use Rattle.std.specs.FinMap as map
use Rattle.presence_base.specs.declared.dots.Dot.{Dot}
use Rattle.presence_base.specs.declared.row.Row.{Row}
use Rattle.presence_base.specs.Order.{same_text}
use Rattle.presence_journal.specs.declared.rows.Place.{Place}
use Rattle.presence_journal.specs.Present.{RowMap, in_order}
use Rattle.tracker_shown.specs.declared.stand.Mark.{Mark}
use Rattle.tracker_shown.specs.declared.stand.Mark.TheVariants.{First, At, Last}
use Rattle.tracker_shown.specs.declared.stand.Holder.{Holder}
use Rattle.tracker_shown.specs.declared.stand.Stand.{Stand}
use Rattle.tracker_shown.specs.declared.stand.Ends.{Ends}
use Rattle.tracker_shown.specs.Stands.{is_between}
use Rattle.tracker_shown.specs.Kept.{Kept, kept_at}

abbrev pub dot_by : Mark (List ℕ) → Mark Dot → Option Dot
dot_by (At k) (At d) = Some d
dot_by (At k) First = None
dot_by (At k) Last = None
dot_by First d = None
dot_by Last d = None

-- the dot of a row that stands there
abbrev pub dot_at : Stand → Option Dot
dot_at s = dot_by s.key s.dot

abbrev pub with_dot : Option Dot → Row → List (Dot × Row) → List (Dot × Row)
with_dot None r xs = xs
with_dot (Some d) r xs = (d, r) ∷ xs

-- the rows of these entries, with their dots
abbrev pub rows_of : List (Stand × Row) → List (Dot × Row)
rows_of [] = []
rows_of (e ∷ es) = with_dot (dot_at e.0) e.1 (rows_of es)

abbrev pub rows_between : Ends → Kept → List (Dot × Row)
rows_between x m = rows_of (filter (λ e. is_between x e.0) m.entries)

abbrev pub everywhere : Place → Bool
everywhere p = true

abbrev pub at_key : List ℕ → Place → Bool
at_key k p = same_text k p.key

-- the row at a place, where it passes the test
abbrev pub passing : (Dot × Row → Bool) → Place → Option Row → Option Row
passing f p None = None
passing f p (Some r) = cond (f (p.dot, r)) (Some r) None

-- the rows of a table that pass a test, where these are what is kept for the holder at the places that q picks
abbrev pub Lists : Kept → Holder → List ℕ → (Place → Bool) → List (Dot × Row) → Type 0
Lists m w t q v =
    (rows : RowMap) (f : Dot × Row → Bool)
    → ((p : Place) → passing f p (map.get rows p) ≡ cond (q p) (kept_at m w t p) None)
    → v ≡ filter f (in_order rows)
