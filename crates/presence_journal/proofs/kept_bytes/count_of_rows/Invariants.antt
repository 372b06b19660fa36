use Rattle.std.proofs.Common.{◌≡◌, ◌≤◌, ◌+◌, ◌-◌, ◌^◌, drop, min}
use Rattle.presence_journal.specs.EntryBytes.{rows_bytes}
use Rattle.presence_journal.proofs.kept_bytes.count_of_rows.Given as goal

-- the count so far, and the bytes of the rows that are left
abbrev pub invariant-loop-row : goal.invariant-loop-row
invariant-loop-row l = (l.bytes ≤ 2 ^ 64 - 1)
    × (min (l.bytes + rows_bytes (drop l.row-index l.rows)) (2 ^ 64 - 1) ≡ min (rows_bytes l.rows) (2 ^ 64 - 1))
