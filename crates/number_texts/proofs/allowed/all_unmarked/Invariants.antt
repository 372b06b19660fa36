use Rattle.std.proofs.Common.{◌≡◌, map, string_bytes}
use Rattle.number_texts.specs.Marks.{unmarked_text}
use Rattle.number_texts.proofs.allowed.all_unmarked.Given as goal

abbrev pub invariant-loop-text : goal.invariant-loop-text
invariant-loop-text l = map string_bytes l.told.items ≡ map unmarked_text (map string_bytes l.yielded)
