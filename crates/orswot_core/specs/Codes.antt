-- How the logic stores the models of this crate.
use Rattle.std.specs.Coded.{Coded, code_by, coded×}
use Rattle.std.specs.FinMap as map
use Rattle.std.specs.FinSet as set
use Rattle.std.specs.Prelude.{refl}
use Rattle.dot_context.specs.Sets.{DotSet}
use Rattle.presence_base.specs.Codes.{dot_code, row_code}
use Rattle.orswot_core.specs.Sets.{DotRows, LiveRows, Planned}

abbrev pub rows_code : Coded DotRows
rows_code = code_by (DotSet × LiveRows) (coded× (set.code dot_code) (map.code dot_code row_code))
    (λ s. (s.covered, s.live)) (λ p. record { covered = p.0; live = p.1 }) (λ _. refl)

abbrev pub planned_code : Coded Planned
planned_code = code_by (DotRows × DotRows) (coded× rows_code rows_code) (λ p. (p.before, p.after))
    (λ p. record { before = p.0; after = p.1 }) (λ _. refl)
