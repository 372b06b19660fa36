use Rattle.std.proofs.Common.{sym, subst}
use Rattle.std.proofs.lemmas.Result.{IfOk-weaker}
use Rattle.tracker_feeds.specs.Making.{MakesItems}
use Rattle.tracker_feeds.proofs.ItemLemmas.{shout_made, diffs_made, no_shout}
use Rattle.tracker_feeds.proofs.items.items_of.Goals as goal

pub returns-in-Shout : goal.returns-in-Shout
returns-in-Shout c =
    IfOk-weaker c.shout_of.result _ _
    (λ made makes. subst (λ s. MakesItems c.args.feeds.now s c.args.turn.now made) (sym c.in-Shout.is) (shout_made c.args.feeds.now c.args.turn.now c.in-Shout.topic c.in-Shout.payload made makes))
    c.shout_of.ensures

pub returns-in_default : goal.returns-in_default
returns-in_default c =
    IfOk-weaker c.diffs_of.result _ _
    (λ made makes. diffs_made c.args.feeds.now c.args.step.now c.args.turn.now made (no_shout c.args.step.now c.in_default.not-Shout) makes)
    c.diffs_of.ensures
