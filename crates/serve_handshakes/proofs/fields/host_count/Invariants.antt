use Rattle.std.proofs.Common.{◌≡◌, ◌+◌, ◌≤◌, drop}
use Rattle.websocket.specs.Headers.{fields_of}
use Rattle.serve_handshakes.specs.Fields.{host_count}
use Rattle.serve_handshakes.proofs.fields.host_count.Given as goal

-- those so far, and those of the fields that are left
abbrev pub invariant-loop-span : goal.invariant-loop-span
invariant-loop-span l =
    (host_count (fields_of l.head l.spans) ≡ l.count + host_count (fields_of l.head (drop l.span-index l.spans)))
    × (l.count ≤ l.span-index)
