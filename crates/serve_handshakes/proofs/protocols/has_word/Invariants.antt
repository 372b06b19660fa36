use Rattle.std.proofs.Common.{◌≡◌, ◌-◌, ◌≤◌, take, drop}
use Rattle.serve_handshakes.specs.Protocols.{has_word, has_word_from}
use Rattle.serve_handshakes.proofs.protocols.has_word.Given as goal

abbrev pub invariant-loop-i : goal.invariant-loop-i
invariant-loop-i l = (l.start ≤ l.i) × (has_word l.value l.wanted ≡ has_word_from l.wanted (take (l.i - l.start) (drop l.start l.value)) (drop l.i l.value))
