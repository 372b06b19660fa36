use Rattle.std.proofs.Common.{rules}
use Rattle.orswot_core.proofs.joins.is_row_left.Goals as goal

pub returns-then-contains_key : goal.returns-then-contains_key
returns-then-contains_key c = search rules
