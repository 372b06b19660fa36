use Rattle.std.proofs.Common.{◌≡◌, ℕ, List, option_copied, sym, ◌∙◌, ap}
use Rattle.presence_journal.specs.declared.entry.Start.{Start}
use Rattle.presence_journal.specs.History.{start_of}
use Rattle.presence_journal.specs.Queue.{topic_at, topic_of, topic_after}
use Rattle.presence_journal.proofs.Topics.{topic_of-begin, topic_of-then}
use Rattle.presence_journal.proofs.Walking.{reached_none, reached_more}
use Rattle.presence_journal_walks.proofs.topics.walk_topic.Goals as goal

pub loop-entry-init : goal.loop-entry-init
loop-entry-init c =
    let s = start_of c.args.journal.now in
    let n = c.args.number in
    reached_none s c.args.journal.now c.entries-entries.result.now (λ h. option_copied c.listed_topic-topic.result ≡ topic_of h n) c.entries-entries.ensures.history
    (c.listed_topic-topic.ensures
    ∙ (ap (λ (xs : List (ℕ × List ℕ)). topic_at xs n) c.as_slice.ensures
    ∙ (ap (λ (b : Start). topic_at b.subscribers n) c.start-start.ensures ∙ sym (topic_of-begin s n))))

pub loop-entry-preserved : goal.loop-entry-preserved
loop-entry-preserved c =
    let l = c.loop-entry in
    let e = c.entry-item.result in
    let n = c.args.number in
    reached_more c.args.journal.now c.entries-entries.result.now l.entry-index e (λ h. option_copied l.topic ≡ topic_of h n) (λ h. option_copied c.topic_after_entry-topic.result ≡ topic_of h n) c.entries-entries.ensures.legal c.loop-entry-test.true c.entry-item.is
    (λ h legal before. c.topic_after_entry-topic.ensures ∙ (ap (topic_after e.step e.number n) before ∙ sym (topic_of-then h e n))) l.invariant
