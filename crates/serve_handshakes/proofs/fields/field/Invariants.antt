use Rattle.std.proofs.Common.{◌≡◌, drop}
use Rattle.websocket.specs.Headers.{fields_of, header_value}
use Rattle.serve_handshakes.proofs.fields.field.Given as goal

-- the field that is looked for is among those that are left
abbrev pub invariant-loop-span : goal.invariant-loop-span
invariant-loop-span l =
    header_value (fields_of l.head l.spans) l.name ≡ header_value (fields_of l.head (drop l.span-index l.spans)) l.name
