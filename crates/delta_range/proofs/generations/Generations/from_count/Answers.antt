use Rattle.std.proofs.Common.{rules}
use Rattle.delta_range.proofs.generations.Generations.from_count.Goals as goal

pub returns : goal.returns
returns c = search rules
