use Rattle.node_world.proofs.Facts.{rows_are_made, removals_are_made, worlds_are_true}
use Rattle.node_world.proofs.laws.told_values_are_true.Goals as goal

pub returns-clause-rows : goal.returns-clause-rows
returns-clause-rows c = rows_are_made

pub returns-clause-removals : goal.returns-clause-removals
returns-clause-removals c = removals_are_made

pub returns-clause-worlds : goal.returns-clause-worlds
returns-clause-worlds c = worlds_are_true
