-- How the logic stores the models of this crate.
use Rattle.std.specs.Coded.{Coded, code_by, coded×}
use Rattle.std.specs.FinSet as set
use Rattle.std.specs.Prelude.{refl}
use Rattle.presence_base.specs.Codes.{dot_code}
use Rattle.dot_context.specs.Sets.{DotSet, Planned}

abbrev pub planned_code : Coded Planned
planned_code = code_by (DotSet × DotSet) (coded× (set.code dot_code) (set.code dot_code)) (λ p. (p.held, p.more))
    (λ p. record { held = p.0; more = p.1 }) (λ _. refl)
