use Rattle.tokens.specs.Views.{granted_by}
use Rattle.tokens.proofs.Certifying.{certified_by}
use Rattle.tokens.proofs.judging.verify.Goals as goal

pub returns-clause-certified : goal.returns-clause-certified
returns-clause-certified c = certified_by granted_by c.judge.result _ _ _ c.judge.ensures
