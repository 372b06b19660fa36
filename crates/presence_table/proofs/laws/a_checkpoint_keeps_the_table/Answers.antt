use Rattle.presence_table.proofs.Checkpoints.{checkpoint_keeps_table}
use Rattle.presence_table.proofs.laws.a_checkpoint_keeps_the_table.Goals as goal

pub returns : goal.returns
returns c = checkpoint_keeps_table
