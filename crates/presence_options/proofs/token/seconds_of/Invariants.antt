use Rattle.std.proofs.Common.{◌≡◌, ◌≤◌, ◌+◌, drop}
use Rattle.presence_options.specs.Times.{time_from}
use Rattle.presence_options.specs.declared.options.TheConstants.{MAX_LASTS}
use Rattle.presence_options.proofs.token.seconds_of.Given as goal

-- what the digits so far and the rest tell is what all tell
abbrev pub invariant-loop-i : goal.invariant-loop-i
invariant-loop-i l = (time_from 0 l.text ≡ time_from l.number (drop l.i l.text)) × (l.number ≤ MAX_LASTS + 1)
