use Rattle.presence_journal_laws.proofs.Waiting.{begins_waiting_alike, takes_alike, steps_wait_alike}
use Rattle.presence_journal_laws.proofs.laws.subscribers_wait_alike.Goals as goal

pub returns-clause-begins : goal.returns-clause-begins
returns-clause-begins c = begins_waiting_alike

pub returns-clause-takes : goal.returns-clause-takes
returns-clause-takes c = takes_alike

pub returns-clause-steps : goal.returns-clause-steps
returns-clause-steps c = steps_wait_alike
