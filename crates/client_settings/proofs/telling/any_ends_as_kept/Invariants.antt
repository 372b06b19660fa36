use Rattle.std.proofs.Common.{◌≡◌, drop, map, string_bytes}
use Rattle.std.specs.List.{list_any}
use Rattle.client_settings.specs.Telling.{ends_as_kept}
use Rattle.client_settings.proofs.telling.any_ends_as_kept.Given as goal

-- what is left decides
abbrev pub invariant-loop-text : goal.invariant-loop-text
invariant-loop-text l = list_any ends_as_kept (map string_bytes l.texts) ≡ list_any ends_as_kept (map string_bytes (drop l.text-index l.texts))
