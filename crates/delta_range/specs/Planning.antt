-- Planning: what a generation was, and what it becomes.
use Rattle.std.specs.Prelude.{Option, Some}
use Rattle.delta_range.specs.declared.generations.Next.{Next}
use Rattle.delta_range.specs.declared.generations.Next.TheVariants.{Anew, Grows}
use Rattle.delta_range.specs.Deltas.{DeltaValue}

abbrev pub was : Next → Option DeltaValue
was (Anew kept next) = kept
was (Grows g) = Some g.before

abbrev pub becomes : Next → Option DeltaValue
becomes (Anew kept next) = next
becomes (Grows g) = Some g.after
