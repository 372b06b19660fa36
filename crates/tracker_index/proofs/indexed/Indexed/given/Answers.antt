use Rattle.std.proofs.Common.{false, Some, List, length, sym, ap, ◌∙◌}
use Rattle.presence_journal.specs.declared.entry.Outcome.{Outcome}
use Rattle.presence_journal.specs.declared.entry.Outcome.TheVariants as outcomes_are
use Rattle.presence_journal.specs.declared.rows.Item.{Item}
use Rattle.tracker_feeds.specs.Rings.{values, shared}
use Rattle.tracker_index.proofs.FeedLemmas.{takes_state, takes_items}
use Rattle.tracker_index.proofs.IndexedLemmas.{kept_seen}
use Rattle.tracker_index.proofs.indexed.Indexed.given.Goals as goal

pub returns-in_default-clause-outcome : goal.returns-in_default-clause-outcome
returns-in_default-clause-outcome c =
    let x = c.self.inside in
    let kept = kept_seen c.args.self.now x.journal x.parts c.self.view_is c.requires.ready c.self.invariant in
    takes_state c.args.self.now.history x.parts.feeds c.args.number c.args.max c.args.topic.now kept.feeds c.requires.topic
    (ap shared (sym c.in_default.is) ∙ c.in_ok-shared.ensures)

pub returns-clause-outcome : goal.returns-clause-outcome
returns-clause-outcome c =
    let x = c.self.inside in
    let kept = kept_seen c.args.self.now x.journal x.parts c.self.view_is c.requires.ready c.self.invariant in
    let copied = c.as_slice-2.ensures.value ∙ (c.in_ok-items.ensures ∙ ap values c.as_slice.ensures.value) in
    takes_items c.args.self.now.history x.parts.feeds c.args.number c.args.max c.args.topic.now (values c.in-Some.shared.items) kept.feeds c.requires.topic
    (ap shared (sym c.in-Some.is) ∙ c.in_ok-shared.ensures)
    ∙ ap (λ (o : Outcome). Some o) (sym (c.taken-outcome.ensures ∙ ap (λ (is : List Item). outcomes_are.Taken false (length is)) copied))
