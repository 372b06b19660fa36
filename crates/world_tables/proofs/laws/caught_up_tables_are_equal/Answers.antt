use Rattle.world_tables.proofs.Claims.{caught_up_tables_are_equal}
use Rattle.world_tables.proofs.laws.caught_up_tables_are_equal.Goals as goal

pub returns : goal.returns
returns c = caught_up_tables_are_equal
