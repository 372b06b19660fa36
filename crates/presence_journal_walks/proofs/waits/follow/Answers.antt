use Rattle.std.proofs.Common.{ℕ, List, option_copied, sym, ◌∙◌, ap, subst}
use Rattle.presence_journal.specs.declared.entry.Start.{Start}
use Rattle.presence_journal.specs.History.{Begin, onto}
use Rattle.presence_journal.specs.Queue.{topic_at}
use Rattle.presence_journal.specs.Table.{IsLegal}
use Rattle.presence_journal_walks.proofs.Tallies.{followed_none, followed_more}
use Rattle.presence_journal_walks.proofs.waits.follow.Goals as goal

pub loop-place-init : goal.loop-place-init
loop-place-init c =
    let n = c.args.subscriber in
    followed_none n c.start-start.result.now (option_copied c.listed_topic-topic.result) c.first_tally-tally.result (c.listed_topic-topic.ensures ∙ ap (λ (xs : List (ℕ × List ℕ)). topic_at xs n) c.as_slice.ensures) c.first_tally-tally.ensures

pub loop-place-preserved : goal.loop-place-preserved
loop-place-preserved c =
    let l = c.loop-place in
    let es = c.entries-entries.result.now in
    let whole = ap (λ (b : Start). onto (Begin b) es) c.start-start.ensures ∙ c.entries-entries.ensures.history in
    followed_more c.start-start.result.now es l.place c.index-entries-place.result c.args.subscriber (option_copied l.topic) (option_copied c.topic_after_entry-topic.result) c.makes_one-makes.result l.tally c.next_tally-tally.result
    (subst IsLegal (sym whole) c.entries-entries.ensures.legal) c.loop-place-test.true c.index-entries-place.is c.topic_after_entry-topic.ensures c.makes_one-makes.ensures c.next_tally-tally.ensures l.invariant
