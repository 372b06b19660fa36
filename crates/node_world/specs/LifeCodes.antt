-- How the logic stores the model of a life.
use Rattle.std.specs.Coded.{Coded, code_by, coded_list, coded×}
use Rattle.std.specs.Prelude.{List, refl}
use Rattle.presence_base.specs.declared.dots.Dot.{Dot}
use Rattle.presence_base.specs.declared.row.Row.{Row}
use Rattle.presence_base.specs.Codes.{dot_code, row_code}
use Rattle.presence_journal.specs.Codes.{history_code}
use Rattle.presence_journal.specs.History.{History}
use Rattle.node_world.specs.World.{LifeValue}

abbrev pub life_code : Coded LifeValue
life_code = code_by (History × List (Dot × Row)) (coded× history_code (coded_list (coded× dot_code row_code)))
    (λ l. (l.history, l.made)) (λ p. record { history = p.0; made = p.1 }) (λ _. refl)
