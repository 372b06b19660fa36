use Rattle.tokens.proofs.laws.grants_came_of_tokens.Goals as goal

pub returns : goal.returns
returns c = λ g. g.judged
