-- How the logic stores the model of a world.
use Rattle.std.specs.Coded.{Coded, code_by, coded_list, coded×}
use Rattle.std.specs.Prelude.{List, refl}
use Rattle.std.specs.FinMap as map
use Rattle.presence_base.specs.declared.dots.Replica.{Replica}
use Rattle.presence_base.specs.Codes.{replica_code}
use Rattle.orswot_core.specs.ToldCodes.{told_code}
use Rattle.orswot_core.specs.Telling.{ToldValue}
use Rattle.node_world.specs.LifeCodes.{life_code}
use Rattle.node_world.specs.World.{Lives, WorldValue}

abbrev pub world_code : Coded WorldValue
world_code = code_by (Lives × (List Replica × List ToldValue))
    (coded× (map.code replica_code life_code) (coded× (coded_list replica_code) (coded_list told_code)))
    (λ w. (w.lives, (w.present, w.told))) (λ p. record { lives = p.0; present = p.1.0; told = p.1.1 }) (λ _. refl)
