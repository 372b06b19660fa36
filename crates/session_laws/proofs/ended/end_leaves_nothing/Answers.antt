use Rattle.session_laws.proofs.Behind.{end_leaves_nothing}
use Rattle.session_laws.proofs.ended.end_leaves_nothing.Goals as goal

pub returns : goal.returns
returns c = end_leaves_nothing c.nothing_else_changes.ensures.rows
