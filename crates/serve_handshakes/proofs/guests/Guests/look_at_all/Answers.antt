use Rattle.std.proofs.Common.{◌≡◌, ◌<◌, drop, ◌+◌, ℕ, List, length, slice_set, rules, sym, subst}
use Rattle.tungstenite.specs.Socket.{Socket}
use Rattle.serve_handshakes.specs.Guests.{LooksAll}
use Rattle.serve_handshakes.specs.declared.guests.Guest.{Guest}
use Rattle.serve_handshakes.proofs.Lists.{taken_back}
use Rattle.serve_handshakes.proofs.Looking.{LookedTo, looked_all, looked_next}
use Rattle.serve_handshakes.proofs.guests.Guests.look_at_all.Goals as goal

pub loop-guest-preserved : goal.loop-guest-preserved
loop-guest-preserved g c =
    let lt : c.loop-guest.guest-index < length c.loop-guest.guest-items = search rules in
    let next = looked_next c.args.self.now.guests.items c.loop-guest.guest-items c.loop-guest.guest-index
    c.guest-item.result c.look_into.new.self c.in_ok-look_into.ensures.looked.0 c.loop-guest.opened.items
    lt c.in_ok-look_into.ensures.looked.1 c.loop-guest.invariant.looked in
    record {
      looked = subst (λ (l : List (ℕ × Socket g.row.S.Denot)). LookedTo c.args.self.now.guests.items
          (slice_set c.loop-guest.guest-items c.loop-guest.guest-index c.look_into.new.self) (c.loop-guest.guest-index + 1) l)
          (sym c.in_ok-look_into.ensures.looked.2) next;
      room = search rules;
      few = search rules;
    }

pub returns-clause-looked : goal.returns-clause-looked
returns-clause-looked g c =
    let len : c.args.self.now.guests.len ≡ length c.loop-guest.guest-items = search rules in
    let end : c.loop-guest.guest-index ≡ length c.loop-guest.guest-items = search rules in
    subst (λ (l : List (Guest g.row.S.Denot g.S.Read g.S.Write)). LooksAll c.args.self.now.guests.items l c.loop-guest.opened.items)
    (sym (taken_back c.args.self.now.guests.len c.loop-guest.guest-items
    (drop (length c.loop-guest.guest-items) c.args.self.now.guests.items) len))
    (looked_all c.args.self.now.guests.items c.loop-guest.guest-items c.loop-guest.guest-index c.loop-guest.opened.items
    end c.loop-guest.invariant.looked)
