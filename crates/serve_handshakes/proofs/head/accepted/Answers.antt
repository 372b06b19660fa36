use Rattle.std.proofs.Common.{sym}
use Rattle.serve_handshakes.proofs.Accepting.{asking}
use Rattle.serve_handshakes.proofs.head.accepted.Goals as goal

pub returns-clause-asking : goal.returns-clause-asking
returns-clause-asking c =
    asking c.args.head.now c.args.spans.now c.args.found.now _ c.accept_of.result c.requires.parsed (sym c.key_at.ensures) c.accept_of.ensures
