use Rattle.std.proofs.lemmas.Result.{IfOk-weaker}
use Rattle.tracker_shown.proofs.ListLemmas.{placed_listed}
use Rattle.tracker_shown.proofs.placed.Placed.listed.Goals as goal

pub returns : goal.returns
returns c = IfOk-weaker c.list_topic.result _ _ (λ v lists f m is table. placed_listed c.args.self.now c.args.topic.now v.items lists f m is table) c.list_topic.ensures
