use Rattle.std.proofs.Common.{sym, subst}
use Rattle.std.proofs.lemmas.Result.{IfOk-weaker}
use Rattle.tracker_shown.specs.Kept.{IsShownOf}
use Rattle.tracker_shown.proofs.ListLemmas.{pid_listed}
use Rattle.tracker_shown.proofs.shown.Shown.rows_of_pid.Goals as goal

pub returns : goal.returns
returns c = IfOk-weaker c.list_topic.result _ _ (λ v lists g s. pid_listed g c.self.inside.table (subst (IsShownOf g) (sym c.self.view_is) s) c.args.topic.now c.args.pid v.items lists) c.list_topic.ensures
