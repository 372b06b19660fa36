use Rattle.std.proofs.lemmas.Result.{IfOk-weaker}
use Rattle.node_world.proofs.going_on.made_rows.Goals as goal

pub returns : goal.returns
returns c = IfOk-weaker c.rows_under.result _ _ (λ v is. record { set = c.in_ok-set.set; holds = c.in_ok-set.ensures; are = is }) c.rows_under.ensures
