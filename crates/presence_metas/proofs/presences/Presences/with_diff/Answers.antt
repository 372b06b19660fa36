use Rattle.std.proofs.Common.{rules}
use Rattle.presence_metas.specs.Listing.{applied}
use Rattle.presence_metas.proofs.presences.Presences.with_diff.Goals as goal

pub returns-clause-lists : goal.returns-clause-lists
unfolding applied
returns-clause-lists c = search rules
