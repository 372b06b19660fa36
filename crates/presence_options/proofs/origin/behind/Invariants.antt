use Rattle.std.proofs.Common.{◌≡◌, drop}
use Rattle.presence_options.specs.Origins.{behind}
use Rattle.presence_options.proofs.origin.behind.Given as goal

-- what was passed over may stand there
abbrev pub invariant-loop-i : goal.invariant-loop-i
invariant-loop-i l = behind l.part l.text ≡ behind l.part (drop l.i l.text)
