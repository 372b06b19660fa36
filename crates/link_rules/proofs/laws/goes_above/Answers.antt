use Rattle.link_rules.proofs.GoingOn as facts
use Rattle.link_rules.proofs.laws.goes_above.Goals as goal

pub returns : goal.returns
returns c = facts.goes_above
