use Rattle.std.proofs.Common.{refl}
use Rattle.link_lines.proofs.laws.limits_are_these.Goals as goal

pub returns : goal.returns
returns c = record { line_bytes = refl; shards = refl }
