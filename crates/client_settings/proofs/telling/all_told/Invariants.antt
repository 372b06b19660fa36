use Rattle.std.proofs.Common.{◌≡◌, map, string_bytes}
use Rattle.client_settings.specs.Telling.{all_told_by}
use Rattle.client_settings.proofs.telling.all_told.Given as goal

-- what became of those that were gone through
abbrev pub invariant-loop-text : goal.invariant-loop-text
invariant-loop-text l = map string_bytes l.told.items ≡ all_told_by l.events l.pid (map string_bytes l.yielded)
