use Rattle.std.proofs.Common.{◌≡◌, ◌≤◌, drop}
use Rattle.presence_options.specs.Origins.{is_port, is_port_after}
use Rattle.presence_options.proofs.origin.is_port.Given as goal

-- the number so far is a port's, and the digits that are left go on with it
abbrev pub invariant-loop-digit : goal.invariant-loop-digit
invariant-loop-digit l = (l.port ≤ 65535) × (is_port l.text ≡ is_port_after l.port (drop l.digit-index l.text))
