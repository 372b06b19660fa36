use Rattle.std.proofs.Common.{rules}
use Rattle.std.proofs.lemmas.Fn.{filter_same}
use Rattle.serve_handshakes.proofs.guests.Guests.give_up.Goals as goal

pub returns : goal.returns
returns g c = filter_same _ _ _ (λ x b q k. search rules) _ _ c.retain.ensures.filtered
