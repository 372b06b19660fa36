use Rattle.std.proofs.Common.{rules}
use Rattle.presence_metas.proofs.presences.diff_value.Goals as goal

pub returns-clause-value : goal.returns-clause-value
returns-clause-value c = search rules
