use Rattle.std.proofs.Common.{rules}
use Rattle.hook_registry.proofs.stored.Hooks.new.Goals as goal

pub returns-clause-on_join : goal.returns-clause-on_join
returns-clause-on_join c = search rules
