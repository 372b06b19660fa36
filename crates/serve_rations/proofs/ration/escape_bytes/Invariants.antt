use Rattle.std.proofs.Common.{◌≡◌, ◌≤◌, ◌+◌, ◌*◌, drop, sum_by}
use Rattle.serve_rations.specs.Rows.{escape_byte}
use Rattle.serve_rations.proofs.ration.escape_bytes.Given as goal

abbrev pub invariant-loop-byte : goal.invariant-loop-byte
invariant-loop-byte l =
    (l.more + sum_by escape_byte (drop l.byte-index l.text) ≡ sum_by escape_byte l.text) × (l.more ≤ 5 * l.byte-index)
