-- The rows of a topic, wherever they lie.
use Rattle.std.specs.Prelude.{List}
use Rattle.std.specs.Arc.{arc_value}
use Rattle.presence_base.specs.declared.dots.Dot.{Dot}
use Rattle.presence_base.specs.declared.row.Row.{Row}
use Rattle.presence_journal.specs.declared.shared_rows.HeldRows.{HeldRows}
use Rattle.presence_journal.specs.declared.shared_rows.HeldRows.TheVariants.{Bare, Written}

abbrev pub held_rows : HeldRows → List (Dot × Row)
held_rows (Bare a) = (arc_value a).rows.items
held_rows (Written w) = (arc_value (arc_value w).listed).rows.items
