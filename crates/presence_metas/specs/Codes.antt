-- How the logic stores presences.
use Rattle.std.specs.Prelude.{ℕ, List, refl}
use Rattle.std.specs.Coded.{Coded, code_by, coded×, coded_ℕ, coded_list}
use Rattle.serde_json.specs.Data.{Data}
use Rattle.presence_base.specs.JsonCode.{data_code}
use Rattle.presence_metas.specs.declared.tracked.TrackedMeta.{TrackedMeta}

abbrev pub tracked_code : Coded TrackedMeta
tracked_code = code_by (List ℕ × Data) (coded× (coded_list coded_ℕ) data_code) (λ t. (t.reference, t.meta))
    (λ p. record { reference = p.0; meta = p.1 }) (λ _. refl)

abbrev pub listing_code : Coded (List (List ℕ × List TrackedMeta))
listing_code = coded_list (coded× (coded_list coded_ℕ) (coded_list tracked_code))
