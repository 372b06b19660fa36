use Rattle.serve_handshakes.specs.Guests.{readied}
use Rattle.serve_handshakes.proofs.Lists.{MappedTo}
use Rattle.serve_handshakes.proofs.guests.Guests.mark_all.Given as goal

abbrev pub invariant-loop-guest : goal.invariant-loop-guest
invariant-loop-guest g l = MappedTo readied l.fn.self.guests.items l.guest-items l.guest-index
