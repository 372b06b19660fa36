use Rattle.presence_journal_laws.proofs.Covered.{begins_alike}
use Rattle.presence_journal_laws.proofs.AlikeTold.{alike_tell_the_same}
use Rattle.presence_journal_laws.proofs.laws.checkpoints_are_alike.Goals as goal

pub returns-clause-begins : goal.returns-clause-begins
returns-clause-begins c = begins_alike

pub returns-clause-say : goal.returns-clause-say
returns-clause-say c = alike_tell_the_same
