use Rattle.std.specs.Str.Iter.{lines_steps}
use Rattle.hmac_keys.specs.Lines.{bytes_of}
use Rattle.hmac_keys.proofs.Reading.{Left}
use Rattle.hmac_keys.proofs.keys.keys_of.Given as goal

-- what the keys are is left to the lines that are left
abbrev pub invariant-loop-line : goal.invariant-loop-line
invariant-loop-line l = Left lines_steps l.line-iterator l.text (bytes_of l.keys)
