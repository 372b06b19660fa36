use Rattle.std.proofs.Common.{sym, subst}
use Rattle.std.proofs.lemmas.Result.{IfOk-weaker}
use Rattle.tracker_shown.specs.Kept.{IsShownOf}
use Rattle.tracker_shown.proofs.ListLemmas.{key_listed}
use Rattle.tracker_shown.proofs.shown.Shown.listed_key.Goals as goal

pub returns : goal.returns
returns c = IfOk-weaker c.list_key.result _ _ (λ v lists g s. key_listed g c.self.inside.table (subst (IsShownOf g) (sym c.self.view_is) s) c.args.topic.now c.args.key.now v.items lists) c.list_key.ensures
