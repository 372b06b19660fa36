use Rattle.std.proofs.Common.{rules}
use Rattle.dot_context.proofs.runs.top_of.Goals as goal

pub returns-in-Some : goal.returns-in-Some
returns-in-Some c = search rules
