use Rattle.std.proofs.Common.{◌≡◌, ◌-◌, ◌≤◌, take, drop}
use Rattle.serve_handshakes.specs.Shown.{piece_behind, piece_from}
use Rattle.serve_handshakes.proofs.shown.piece_behind.Given as goal

abbrev pub invariant-loop-i : goal.invariant-loop-i
invariant-loop-i l =
    (l.start ≤ l.i) × (piece_behind l.one l.other l.front l.text ≡ piece_from l.one l.other l.front (take (l.i - l.start) (drop l.start l.text)) (drop l.i l.text))
