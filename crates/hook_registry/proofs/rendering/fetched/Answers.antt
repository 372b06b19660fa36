use Rattle.std.proofs.Common.{rules}
use Rattle.hook_registry.proofs.rendering.fetched.Goals as goal

pub returns : goal.returns
returns g c = search rules
