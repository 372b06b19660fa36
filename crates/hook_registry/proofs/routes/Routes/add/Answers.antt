use Rattle.std.proofs.Common.{rules}
use Rattle.hook_registry.proofs.routes.Routes.add.Goals as goal

pub returns-then-not-is_pattern-clause-err : goal.returns-then-not-is_pattern-clause-err
returns-then-not-is_pattern-clause-err c = search rules
