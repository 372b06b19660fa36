use Rattle.orswot_core.proofs.LawFacts.{idempotent, commutative, associative}
use Rattle.orswot_core.proofs.laws.joins_in_any_order.Goals as goal

pub returns : goal.returns
returns c = record { idempotent = idempotent; commutative = commutative; associative = associative }
