use Rattle.serve_handshakes.specs.Guests.{marked}
use Rattle.serve_handshakes.proofs.Lists.{MappedTo}
use Rattle.serve_handshakes.proofs.guests.Guests.mark.Given as goal

abbrev pub invariant-loop-guest : goal.invariant-loop-guest
invariant-loop-guest g l = MappedTo (marked l.fn.number) l.fn.self.guests.items l.guest-items l.guest-index
