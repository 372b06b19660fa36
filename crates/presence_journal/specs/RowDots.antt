-- The dots of rows.
use Rattle.std.specs.Prelude.{List, map}
use Rattle.presence_base.specs.declared.dots.Dot.{Dot}
use Rattle.presence_base.specs.declared.row.Row.{Row}

abbrev pub dots_in : List (Dot × Row) → List Dot
dots_in = map (λ x. x.0)
