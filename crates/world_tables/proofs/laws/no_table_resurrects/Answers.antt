use Rattle.world_tables.proofs.Claims.{no_table_resurrects}
use Rattle.world_tables.proofs.laws.no_table_resurrects.Goals as goal

pub returns : goal.returns
returns c = no_table_resurrects
