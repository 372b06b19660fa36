-- The own rows as they go on under the dots of a rebirth.
use Rattle.std.specs.Prelude.{◌++◌, List, [], ◌∷◌, Option}
use Rattle.presence_base.specs.declared.dots.Dot.{Dot}
use Rattle.presence_base.specs.declared.row.Row.{Row}
use Rattle.presence_journal.specs.History.{with_prev}
use Rattle.tracker_known.specs.Picks.{one_row}

-- the row of an old dot under its new one, as a list
abbrev pub row_under : (Dot → Option Row) → Dot × Dot → List (Dot × Row)
row_under rows p = one_row p.0 (with_prev p.1 (rows p.1))

-- of each pair of a new and an old dot, one after another
abbrev pub rows_again : (Dot → Option Row) → List (Dot × Dot) → List (Dot × Row)
rows_again rows [] = []
rows_again rows (p ∷ ps) = row_under rows p ++ rows_again rows ps
