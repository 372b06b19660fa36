use Rattle.std.proofs.Common.{◌≡◌, drop}
use Rattle.client_settings.specs.Events.{is_named}
use Rattle.client_settings.proofs.events.is_named.Given as goal

-- what is left decides
abbrev pub invariant-loop-name : goal.invariant-loop-name
invariant-loop-name l = is_named l.given l.event ≡ is_named (drop l.name-index l.given) l.event
