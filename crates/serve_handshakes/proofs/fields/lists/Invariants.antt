use Rattle.std.proofs.Common.{◌≡◌, drop}
use Rattle.websocket.specs.Headers.{fields_of}
use Rattle.serve_handshakes.specs.Fields.{lists}
use Rattle.serve_handshakes.proofs.fields.lists.Given as goal

-- the fields list it if those that are left do
abbrev pub invariant-loop-span : goal.invariant-loop-span
invariant-loop-span l =
    lists (fields_of l.head l.spans) l.name l.wanted ≡ lists (fields_of l.head (drop l.span-index l.spans)) l.name l.wanted
