use Rattle.std.specs.BTreeMap.{get}
use Rattle.std.proofs.lemmas.Result.{IfOk-weaker}
use Rattle.presence_base.specs.Order.{dot_cmp}
use Rattle.presence_journal.specs.History.{Begin, onto}
use Rattle.presence_journal_walks.proofs.WaitingLemmas.{made_at}
use Rattle.presence_journal_walks.proofs.pending.made_items.Goals as goal

pub returns-clause-items : goal.returns-clause-items
returns-clause-items c =
    IfOk-weaker c.items_of.result _ _
    (λ v is. made_at c.args.entry.now c.args.topic.now (onto (Begin c.args.start.now) c.args.entries.now) (get dot_cmp c.args.rows.now) c.in_ok-diff.diff v.items c.in_ok-diff.ensures.diff is)
    c.items_of.ensures
