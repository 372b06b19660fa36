use Rattle.std.proofs.Common.{◌≡◌, ◌<◌, drop, length, rules, refl, ◌∙◌}
use Rattle.std.proofs.Math.ListN.{get_or}
use Rattle.serve_handshakes.specs.Guests.{readied}
use Rattle.serve_handshakes.proofs.Lists.{mapped_all, mapped_next, taken_back}
use Rattle.serve_handshakes.proofs.guests.Guests.mark_all.Goals as goal

pub loop-guest-preserved : goal.loop-guest-preserved
loop-guest-preserved g c =
    let lt : c.loop-guest.guest-index < length c.loop-guest.guest-items = search rules in
    mapped_next readied c.args.self.now.guests.items c.loop-guest.guest-items c.loop-guest.guest-index
    c.guest-item.result (readied (get_or c.loop-guest.guest-items c.loop-guest.guest-index c.guest-item.result)) lt refl c.loop-guest.invariant

pub returns : goal.returns
returns g c =
    let len : c.args.self.now.guests.len ≡ length c.loop-guest.guest-items = search rules in
    let end : c.loop-guest.guest-index ≡ length c.loop-guest.guest-items = search rules in
    taken_back c.args.self.now.guests.len c.loop-guest.guest-items
    (drop (length c.loop-guest.guest-items) c.args.self.now.guests.items) len ∙ mapped_all readied c.args.self.now.guests.items c.loop-guest.guest-items
    c.loop-guest.guest-index end c.loop-guest.invariant
