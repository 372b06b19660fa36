-- The dots that a list shows, wherever they lie.
use Rattle.std.specs.Prelude.{◌≡◌, ◌++◌, Bool, List, [], ◌∷◌, Option, Some, None}
use Rattle.std.specs.List.{flat_map}
use Rattle.std.specs.Arc.{arc_value}
use Rattle.std.specs.Cmp.Lexicographic.{slice_cmp}
use Rattle.std.specs.Ordering.{eq_by_cmp}
use Rattle.presence_base.specs.declared.dots.Dot.{Dot}
use Rattle.presence_base.specs.declared.row.Row.{Row}
use Rattle.presence_base.specs.Order.{dot_cmp}
use Rattle.presence_journal.specs.RowDots.{dots_in}
use Rattle.presence_journal.specs.declared.listed_dots.Piece.{Piece}
use Rattle.presence_journal.specs.declared.listed_dots.HeldList.{HeldList}
use Rattle.presence_journal.specs.declared.listed_dots.HeldList.TheVariants.{Nowhere, Few, Pieces}
use Rattle.presence_journal.specs.declared.listed_dots.Walk.{Walk}

abbrev pub piece_dots : Piece → List Dot
piece_dots p = (arc_value p.held).first ∷ (arc_value p.held).more.items

abbrev pub pieces_dots : List Piece → List Dot
pieces_dots = flat_map piece_dots

abbrev pub held_list : HeldList → List Dot
held_list Nowhere = []
held_list (Few a) = (arc_value a).items
held_list (Pieces a) = pieces_dots (arc_value a).pieces.items

abbrev pub walk_dots : Walk → List Dot
walk_dots w = w.rest.now ++ pieces_dots w.pieces.now

abbrev pub same_dots : List Dot → List Dot → Bool
same_dots = eq_by_cmp (slice_cmp dot_cmp)

-- the first dot of these, and those behind it
abbrev pub IsNext : List Dot → Option (Dot × List Dot) → Type 0
IsNext ds None = ds ≡ []
IsNext ds (Some x) = ds ≡ x.0 ∷ x.1

-- these rows begin with these dots, and those come behind
abbrev pub BeginsWith : List Dot → List (Dot × Row) → List (Dot × Row) → Type 0
BeginsWith ds rows left = dots_in rows ≡ ds ++ dots_in left
