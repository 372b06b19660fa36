use Rattle.presence_node_main.proofs.Defaults.{plainly_set}
use Rattle.presence_node_main.proofs.laws.plain_by_default.Goals as goal

pub returns : goal.returns
returns c = plainly_set
