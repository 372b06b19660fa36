use Rattle.std.proofs.Common.{◌+◌, ◌∙◌, sym, ap, subst, List, ℕ, option_copied}
use Rattle.std.specs.BTreeMap.{get}
use Rattle.presence_base.specs.Order.{dot_cmp}
use Rattle.presence_journal.specs.declared.rows.Item.{Item}
use Rattle.presence_journal.specs.declared.entry.Start.{Start}
use Rattle.presence_journal.specs.History.{History, Begin, onto}
use Rattle.presence_journal.specs.Table.{IsLegal}
use Rattle.presence_journal.specs.Queue.{queue_after, topic_at, topic_of}
use Rattle.presence_journal.proofs.Diffs.{legal_front}
use Rattle.presence_journal.proofs.Topics.{is_some-copied, topic_of-begin, queue-begin}
use Rattle.presence_journal_walks.specs.Pending.{waiting_of}
use Rattle.presence_journal_walks.proofs.WaitingLemmas.{pending_more}
use Rattle.presence_journal_walks.proofs.pending.walk_pending.Goals as goal

pub rows_of_entries-requires : goal.rows_of_entries-requires
rows_of_entries-requires c =
    let s = c.start-start.result.now in
    let es = c.entries-entries.result.now in
    let whole = ap (λ (b : Start). onto (Begin b) es) c.start-start.ensures ∙ c.entries-entries.ensures.history in
    legal_front (Begin s) es 0 (subst IsLegal (sym whole) c.entries-entries.ensures.legal)

pub loop-place-init : goal.loop-place-init
loop-place-init c =
    let s = c.start-start.result.now in
    let n = c.args.number in
    record {
      here = c.in_ok-rows.ensures;
      topic = c.listed_topic-subscribed.ensures ∙ (ap (λ (xs : List (ℕ × List ℕ)). topic_at xs n) c.as_slice.ensures ∙ sym (topic_of-begin s n));
      waits = c.first_pending-pending.ensures ∙ sym (queue-begin s n);
    }

pub made_items-requires : goal.made_items-requires
made_items-requires c =
    let s = c.start-start.result.now in
    let es = c.entries-entries.result.now in
    let whole = ap (λ (b : Start). onto (Begin b) es) c.start-start.ensures ∙ c.entries-entries.ensures.history in
    legal_front (Begin s) es (c.loop-place.place + 1) (subst IsLegal (sym whole) c.entries-entries.ensures.legal)

pub loop-place-preserved : goal.loop-place-preserved
loop-place-preserved c =
    let l = c.loop-place in
    let s = c.start-start.result.now in
    let es = c.entries-entries.result.now in
    let e = c.index-entries-place.result in
    let n = c.args.number in
    let t : List ℕ = c.args.topic.now in
    let b = c.is_some.result in
    let w = waiting_of l.pending in
    let whole = ap (λ (b : Start). onto (Begin b) es) c.start-start.ensures ∙ c.entries-entries.ensures.history in
    pending_more s es l.place n t e (get dot_cmp l.rows) (get dot_cmp c.made_items.new.rows) (option_copied l.subscribed) (option_copied c.topic_after_entry-subscribed.result) w (waiting_of c.in_ok-pending.pending) c.in_ok-made.made.items b
    (subst IsLegal (sym whole) c.entries-entries.ensures.legal) (ap (λ (k : History). topic_of k n) whole ∙ c.requires) c.loop-place-test.true c.index-entries-place.is
    c.in_ok-made.ensures.rows c.in_ok-made.ensures.items (c.is_some.ensures ∙ is_some-copied l.subscribed)
    (c.in_ok-pending.ensures ∙ ap (λ (is : List Item). queue_after e.step e.number n is w) c.items_for-heard.ensures)
    c.topic_after_entry-subscribed.ensures l.invariant
