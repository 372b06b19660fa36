use Rattle.std.proofs.Common.{ap, subst, true, Some}
use Rattle.serve_handshakes.specs.Guests.{Fits}
use Rattle.serve_handshakes.proofs.guests.Guests.admit.Goals as goal

pub returns-clause-admitted : goal.returns-clause-admitted
returns-clause-admitted g c = (
  record { number = c.greeted-number.result.0; ready = true; greeting = Some c.greeted-number.result.1 },
  record {
    greeting = c.greeted-number.result.1;
    new = ap (λ n. record { number = n; ready = true; greeting = Some c.greeted-number.result.1 }) c.greeted-number.ensures.number;
    config_is = c.greeted-number.ensures.config;
    no_looks = c.greeted-number.ensures.reads;
  },
  subst (λ all. Fits all c.fit.result c.fit.new.self.guests.items) c.in_ok-push.ensures.items c.fit.ensures,
)
