-- Rows in order of their keys.
use Rattle.std.specs.Prelude.{◌≢◌, ℕ, List, [], ◌∷◌}
use Rattle.std.specs.declared.cmp.Ordering.TheVariants.{Greater}
use Rattle.presence_base.specs.Order.{text_cmp}
use Rattle.presence_base.specs.declared.dots.Dot.{Dot}
use Rattle.presence_base.specs.declared.row.Row.{Row}

-- no key is above the next one, from k on
abbrev pub GoesOn : List ℕ → List (Dot × Row) → Type 0
GoesOn k [] = Unit {0}
GoesOn k (p ∷ rows) = (text_cmp k p.1.key ≢ Greater) × GoesOn p.1.key rows

abbrev pub AreInKeyOrder : List (Dot × Row) → Type 0
AreInKeyOrder [] = Unit {0}
AreInKeyOrder (p ∷ rows) = GoesOn p.1.key rows
