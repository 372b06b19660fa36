use Rattle.link_rules.proofs.KeyTexts as facts
use Rattle.link_rules.proofs.laws.codes_are_apart.Goals as goal

pub returns : goal.returns
returns c = facts.apart
