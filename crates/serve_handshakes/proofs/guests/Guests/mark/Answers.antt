use Rattle.std.proofs.Common.{◌≡◌, ◌<◌, drop, length, rules, ◌∙◌}
use Rattle.serve_handshakes.specs.Guests.{marked}
use Rattle.serve_handshakes.proofs.Lists.{mapped_all, mapped_next, taken_back}
use Rattle.serve_handshakes.proofs.guests.Guests.mark.Goals as goal

pub loop-guest-preserved : goal.loop-guest-preserved
loop-guest-preserved g c =
    let lt : c.loop-guest.guest-index < length c.loop-guest.guest-items = search rules in
    mapped_next (marked c.args.number) c.args.self.now.guests.items c.loop-guest.guest-items c.loop-guest.guest-index
    c.guest-item.result c.mark.new.self lt c.mark.ensures c.loop-guest.invariant

pub returns : goal.returns
returns g c =
    let len : c.args.self.now.guests.len ≡ length c.loop-guest.guest-items = search rules in
    let end : c.loop-guest.guest-index ≡ length c.loop-guest.guest-items = search rules in
    taken_back c.args.self.now.guests.len c.loop-guest.guest-items
    (drop (length c.loop-guest.guest-items) c.args.self.now.guests.items) len ∙ mapped_all (marked c.args.number) c.args.self.now.guests.items c.loop-guest.guest-items
    c.loop-guest.guest-index end c.loop-guest.invariant
