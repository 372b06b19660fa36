use Rattle.std.proofs.Common.{◌≡◌, ◌+◌, ◌^◌, ◌<◌, length, drop}
use Rattle.json.specs.Print.{escape}
use Rattle.link_pool_port.specs.Lengths.{counted}
use Rattle.link_pool_port.proofs.lengths.quoted.Given as goal

-- with what is left it comes to the whole
abbrev pub invariant-loop-byte : goal.invariant-loop-byte
invariant-loop-byte l = (l.bytes < 2 ^ 64) × (counted (l.bytes + length (escape (drop l.byte-index l.byte-items))) ≡ counted (length (escape l.byte-items) + 2))
