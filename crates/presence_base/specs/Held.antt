-- The bytes of a text, wherever they lie.
use Rattle.std.specs.Prelude.{ℕ, List, string_bytes}
use Rattle.std.specs.Arc.{arc_str_bytes}
use Rattle.presence_base.specs.declared.text.Held.{Held}
use Rattle.presence_base.specs.declared.text.Held.TheVariants.{Owned, Shared}

abbrev pub held_bytes : Held → List ℕ
held_bytes (Owned s) = string_bytes s
held_bytes (Shared s) = arc_str_bytes s
