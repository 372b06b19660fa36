use Rattle.std.proofs.Common.{rules}
use Rattle.orswot_core.proofs.set.Orswot.join.Goals as goal

pub returns-in-Err-clause-err : goal.returns-in-Err-clause-err
returns-in-Err-clause-err c = search rules
