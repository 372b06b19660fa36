-- The own rows, all of them.
use Rattle.std.specs.Prelude.{cond, Option, None}
use Rattle.std.specs.FinMap as map
use Rattle.presence_base.specs.declared.dots.Replica.{Replica}
use Rattle.presence_base.specs.declared.dots.Dot.{Dot}
use Rattle.presence_base.specs.declared.row.Row.{Row}
use Rattle.presence_base.specs.Order.{same_replica}
use Rattle.orswot_core.specs.Sets.{DotRows}
use Rattle.presence_journal.specs.History.{History, own, live}

-- the live rows of a replica
abbrev pub of_replica : Replica → DotRows → Dot → Option Row
of_replica r s d = cond (same_replica d.replica r) (map.get s.live d) None

abbrev pub own_live : History → Dot → Option Row
own_live h d = cond (same_replica d.replica (own h)) (live h d) None
