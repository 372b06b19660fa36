use Rattle.world_tables.proofs.Steps.{steps_are_the_tables}
use Rattle.world_tables.proofs.laws.steps_are_the_tables.Goals as goal

pub returns : goal.returns
returns c = steps_are_the_tables
