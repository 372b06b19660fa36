-- How the logic stores the models of this crate.
use Rattle.std.specs.Coded.{Coded, code_by, coded_list, coded_ℕ, coded×}
use Rattle.std.specs.Prelude.{List, refl, ℕ}
use Rattle.presence_base.specs.Codes.{dot_code, replica_code, row_code}
use Rattle.presence_base.specs.declared.dots.Dot.{Dot}
use Rattle.presence_base.specs.declared.dots.Replica.{Replica}
use Rattle.presence_base.specs.declared.row.Row.{Row}
use Rattle.orswot_core.specs.Telling.{Range, ToldValue}

abbrev pub range_code : Coded Range
range_code = code_by (Replica × (ℕ × ℕ)) (coded× replica_code (coded× coded_ℕ coded_ℕ)) (λ g. (g.0, (g.1, g.2)))
    (λ p. (p.0, p.1.0, p.1.1)) (λ _. refl)

abbrev pub told_code : Coded ToldValue
told_code = code_by (List Range × (List Dot × List (Dot × Row)))
    (coded× (coded_list range_code) (coded× (coded_list dot_code) (coded_list (coded× dot_code row_code))))
    (λ t. (t.ranges, (t.extras, t.live))) (λ p. record { ranges = p.0; extras = p.1.0; live = p.1.1 }) (λ _. refl)
