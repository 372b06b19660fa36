-- How the logic stores the models of this crate.
use Rattle.std.specs.Coded.{Coded, code_by, coded_bool, coded×}
use Rattle.std.specs.Prelude.{Bool, refl}
use Rattle.presence_journal.specs.Codes.{history_code}
use Rattle.presence_journal.specs.History.{History}
use Rattle.tracker_index.specs.Seen.{Seen}

abbrev pub seen_code : Coded Seen
seen_code = code_by (History × Bool) (coded× history_code coded_bool) (λ s. (s.history, s.is_ready))
    (λ p. record { history = p.0; is_ready = p.1 }) (λ _. refl)
