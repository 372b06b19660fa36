-- How the logic stores the models of this crate.
use Rattle.std.specs.Coded.{Coded, code_by, coded_ℕ, coded×}
use Rattle.std.specs.Prelude.{refl, ℕ}
use Rattle.shard_pool.specs.Seats.{Hands}
use Rattle.shard_pool.specs.HandCodes.{hand_code}
use Rattle.shard_pool.specs.Hands.{Hand}

abbrev pub hands_code : Coded Hands
hands_code = code_by (ℕ × (Hand × (Hand × (Hand × Hand))))
    (coded× coded_ℕ (coded× hand_code (coded× hand_code (coded× hand_code hand_code))))
    (λ h. (h.number, (h.first, (h.second, (h.third, h.fourth)))))
    (λ p. record { number = p.0; first = p.1.0; second = p.1.1.0; third = p.1.1.1.0; fourth = p.1.1.1.1 }) (λ _. refl)
