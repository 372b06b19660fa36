use Rattle.std.proofs.Common.{◌≡◌, drop, map, string_bytes}
use Rattle.std.specs.List.{list_all}
use Rattle.number_texts.specs.Marks.{has_no_marks}
use Rattle.number_texts.proofs.marks.any_may_have_mark.Given as goal

-- what is left decides
abbrev pub invariant-loop-text : goal.invariant-loop-text
invariant-loop-text l = list_all has_no_marks (map string_bytes l.texts) ≡ list_all has_no_marks (map string_bytes (drop l.text-index l.texts))
