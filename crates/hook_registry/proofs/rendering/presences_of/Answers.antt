use Rattle.std.proofs.Common.{rules}
use Rattle.hook_registry.proofs.Short.{listing_short}
use Rattle.hook_registry.proofs.rendering.presences_of.Goals as goal

pub returns-clause-keys : goal.returns-clause-keys
returns-clause-keys c = search (rules, listing_short)
