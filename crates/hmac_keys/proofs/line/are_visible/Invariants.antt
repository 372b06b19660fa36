use Rattle.std.proofs.Common.{◌≡◌, drop}
use Rattle.hmac_keys.specs.Lines.{are_visible}
use Rattle.hmac_keys.proofs.line.are_visible.Given as goal

-- all can be seen if those that are left can
abbrev pub invariant-loop-byte : goal.invariant-loop-byte
invariant-loop-byte l = are_visible l.text ≡ are_visible (drop l.byte-index l.text)
