use Rattle.link_rules.proofs.GoingOn as facts
use Rattle.link_rules.proofs.laws.goes_on_once.Goals as goal

pub returns : goal.returns
returns c = facts.goes_on_once
