use Rattle.std.proofs.Common.{◌≤◌, length}
use Rattle.serve_handshakes.proofs.Looking.{LookedTo}
use Rattle.serve_handshakes.proofs.guests.Guests.look_at_all.Given as goal

abbrev pub invariant-loop-guest : goal.invariant-loop-guest
invariant-loop-guest g l =
    record {
      looked : LookedTo l.fn.self.guests.items l.guest-items l.guest-index l.opened.items;
      room : length l.guest-items ≤ l.opened.cap;
      few : l.opened.len ≤ l.guest-index;
    }
