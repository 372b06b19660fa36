use Rattle.std.proofs.Common.{false, Some, length, sym, ap, ◌∙◌}
use Rattle.std.specs.Prelude.{is_some}
use Rattle.presence_journal.specs.declared.entry.Outcome.{Outcome}
use Rattle.presence_journal.specs.declared.entry.Outcome.TheVariants as outcomes_are
use Rattle.presence_journal.specs.declared.rows.Item.{Item}
use Rattle.tracker_feeds.specs.Rings.{values, shared}
use Rattle.std.proofs.lemmas.List.{length-map}
use Rattle.std.specs.declared.sync.Arc.{Arc}
use Rattle.presence_journal.proofs.Topics.{is_some-copied}
use Rattle.tracker_index.proofs.FeedLemmas.{takes_none, takes_some_state, takes_some_items}
use Rattle.tracker_index.proofs.IndexedLemmas.{kept_seen}
use Rattle.tracker_index.proofs.indexed.Indexed.take_outcome.Goals as goal

pub returns-then-is_none : goal.returns-then-is_none
returns-then-is_none c =
    let x = c.self.inside in
    let kept = kept_seen c.args.self.now x.journal x.parts c.self.view_is c.requires c.self.invariant in
    sym (takes_none c.args.self.now.history x.parts.feeds c.args.number c.args.max kept.feeds
    (ap is_some (sym c.topic_of.ensures) ∙ (sym (is_some-copied c.topic_of.result) ∙ c.if-is_none.ensures)))

pub returns-in-Some : goal.returns-in-Some
returns-in-Some c =
    let x = c.self.inside in
    let kept = kept_seen c.args.self.now x.journal x.parts c.self.view_is c.requires c.self.invariant in
    ap (λ (o : Outcome). Some o) (c.taken_shared.ensures
    ∙ ap (λ n. outcomes_are.Taken false n) (ap length c.as_slice.ensures.value ∙ sym (length-map c.in-Some.items.items (λ (i : Arc Item _). i.value))))
    ∙ sym (takes_some_items c.args.self.now.history x.parts.feeds c.args.number c.args.max (values c.in-Some.items.items) kept.feeds
    (ap is_some (sym c.topic_of.ensures) ∙ (sym (is_some-copied c.topic_of.result) ∙ c.if-is_none.ensures))
    (ap shared (sym c.in-Some.is) ∙ c.in_ok-items.ensures))

pub returns-in-None : goal.returns-in-None
returns-in-None c =
    let x = c.self.inside in
    let kept = kept_seen c.args.self.now x.journal x.parts c.self.view_is c.requires c.self.invariant in
    sym (takes_some_state c.args.self.now.history x.parts.feeds c.args.number c.args.max kept.feeds
    (ap is_some (sym c.topic_of.ensures) ∙ (sym (is_some-copied c.topic_of.result) ∙ c.if-is_none.ensures))
    (ap shared (sym c.in-None.is) ∙ c.in_ok-items.ensures))
