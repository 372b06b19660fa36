use Rattle.std.proofs.Common.{◌≡◌, drop}
use Rattle.presence_node_main.specs.Place.{has_colon}
use Rattle.presence_node_main.proofs.serving.place.has_colon.Given as goal

-- a colon is among the bytes if one is among those that are left
abbrev pub invariant-loop-byte : goal.invariant-loop-byte
invariant-loop-byte l = has_colon l.bytes ≡ has_colon (drop l.byte-index l.bytes)
