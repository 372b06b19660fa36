use Rattle.std.proofs.lemmas.Result.{IfOk-weaker}
use Rattle.tracker_shown.proofs.ListLemmas.{topic_lists, topic_in_order}
use Rattle.tracker_shown.proofs.listing.list_topic.Goals as goal

pub copy_between-requires : goal.copy_between-requires
copy_between-requires c = topic_in_order c.args.holder c.args.topic.now c.in_ok-ends.ends c.in_ok-ends.ensures

pub returns : goal.returns
returns c =
    IfOk-weaker c.copy_between.result _ _
    (λ v is. topic_lists c.args.holder c.args.topic.now c.args.rows.now c.in_ok-ends.ends v.items c.in_ok-ends.ensures c.copy_between.ensures.ordered is)
    c.copy_between.ensures.rows
