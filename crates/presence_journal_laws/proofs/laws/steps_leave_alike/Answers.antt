use Rattle.presence_journal_laws.proofs.Outcomes.{same_outcomes}
use Rattle.presence_journal_laws.proofs.Steps.{steps_leave_alike}
use Rattle.presence_journal_laws.proofs.laws.steps_leave_alike.Goals as goal

pub returns-clause-outcomes : goal.returns-clause-outcomes
returns-clause-outcomes c = same_outcomes

pub returns-clause-alike : goal.returns-clause-alike
returns-clause-alike c = steps_leave_alike
