use Rattle.std.proofs.Common.{rules}
use Rattle.orswot_core.proofs.joins.remove_rows.Goals as goal

pub returns-clause-ok : goal.returns-clause-ok
returns-clause-ok c = search rules
