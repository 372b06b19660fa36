use Rattle.std.proofs.Common.{option_copied, ◌∙◌, ap}
use Rattle.presence_journal_walks.proofs.LoopLemmas.{first_none, first_more, or_first}
use Rattle.presence_journal_walks.proofs.changing.first_topic.Goals as goal

pub loop-place-init : goal.loop-place-init
loop-place-init c = first_none c.args.start.now c.args.dot.now (option_copied c.kept_topic-first.result) c.kept_topic-first.ensures

pub loop-place-preserved : goal.loop-place-preserved
loop-place-preserved c =
    first_more c.args.start.now c.args.entries.now c.loop-place.place c.index-entries-place.result c.args.dot.now (option_copied c.loop-place.first) (option_copied c.told_topic.result) (option_copied c.or-first.result) c.loop-place-test.true c.index-entries-place.is
    c.told_topic.ensures (ap option_copied c.or-first.ensures ∙ or_first c.loop-place.first c.told_topic.result) c.loop-place.invariant
