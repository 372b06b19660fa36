use Rattle.std.proofs.Common.{sym, subst}
use Rattle.std.proofs.lemmas.Result.{IfOk-weaker}
use Rattle.tracker_shown.specs.Kept.{IsShownOf}
use Rattle.tracker_shown.proofs.ListLemmas.{row_there}
use Rattle.tracker_shown.proofs.shown.Shown.row.Goals as goal

pub returns : goal.returns
returns c =
    IfOk-weaker c.row_at.result _ _
    (λ o is g s. row_there g c.self.inside.table (subst (IsShownOf g) (sym c.self.view_is) s) c.args.topic.now (record { key = c.args.key.now; dot = c.args.dot.now }) o is)
    c.row_at.ensures
