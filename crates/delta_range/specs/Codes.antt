-- How the logic stores the models of this crate.
use Rattle.std.specs.Coded.{Coded, code_by, coded_list, coded_option, coded_ℕ, coded×}
use Rattle.std.specs.Prelude.{List, Option, refl, ℕ}
use Rattle.presence_base.specs.Codes.{dot_code, replica_code, row_code}
use Rattle.presence_base.specs.declared.dots.Dot.{Dot}
use Rattle.presence_base.specs.declared.dots.Replica.{Replica}
use Rattle.presence_base.specs.declared.row.Row.{Row}
use Rattle.delta_range.specs.Deltas.{DeltaValue}
use Rattle.delta_range.specs.Growing.{Growing}
use Rattle.delta_range.specs.Keeping.{Kept}

abbrev pub delta_code : Coded DeltaValue
delta_code =
    code_by (Replica × (ℕ × (ℕ × (List (ℕ × ℕ) × List (Dot × Row)))))
    (coded× replica_code (coded× coded_ℕ
    (coded× coded_ℕ (coded× (coded_list (coded× coded_ℕ coded_ℕ)) (coded_list (coded× dot_code row_code))))))
    (λ d. (d.owner, (d.from, (d.to, (d.older, d.live)))))
    (λ p. record { owner = p.0; from = p.1.0; to = p.1.1.0; older = p.1.1.1.0; live = p.1.1.1.1 }) (λ _. refl)

abbrev pub growing_code : Coded Growing
growing_code = code_by (DeltaValue × DeltaValue) (coded× delta_code delta_code) (λ g. (g.before, g.after))
    (λ p. record { before = p.0; after = p.1 }) (λ _. refl)

abbrev pub kept_code : Coded Kept
kept_code =
    code_by (Option (Replica × ℕ) × (Option DeltaValue × (Option DeltaValue × Option DeltaValue)))
    (coded× (coded_option (coded× replica_code coded_ℕ))
    (coded× (coded_option delta_code) (coded× (coded_option delta_code) (coded_option delta_code))))
    (λ k. (k.last, (k.short, (k.middle, k.long))))
    (λ p. record { last = p.0; short = p.1.0; middle = p.1.1.0; long = p.1.1.1 }) (λ _. refl)
