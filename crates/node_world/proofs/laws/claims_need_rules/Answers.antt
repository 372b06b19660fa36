use Rattle.node_world.proofs.Needs.{need_rules}
use Rattle.node_world.proofs.laws.claims_need_rules.Goals as goal

pub returns : goal.returns
returns c = need_rules
