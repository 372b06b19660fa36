use Rattle.std.proofs.Common.{rules}
use Rattle.hook_registry.proofs.noting.notices.Goals as goal

pub returns-clause-notices : goal.returns-clause-notices
returns-clause-notices g c = search rules
