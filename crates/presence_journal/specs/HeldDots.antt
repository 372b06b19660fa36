-- The dots of a list, wherever they lie.
use Rattle.std.specs.Prelude.{List, []}
use Rattle.std.specs.Arc.{arc_value}
use Rattle.presence_base.specs.declared.dots.Dot.{Dot}
use Rattle.presence_journal.specs.declared.entry.HeldDots.{HeldDots}
use Rattle.presence_journal.specs.declared.entry.HeldDots.TheVariants.{Nowhere, Shared}

abbrev pub held_dots : HeldDots → List Dot
held_dots Nowhere = []
held_dots (Shared a) = (arc_value a).items
