use Rattle.std.proofs.Common.{rules}
use Rattle.presence_base.proofs.row.RowClone.clone.Goals as goal

pub returns : goal.returns
returns c = search rules
