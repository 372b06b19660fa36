use Rattle.std.proofs.Common.{ℕ, sym, ap, ◌∙◌}
use Rattle.std.proofs.lemmas.Result.{on_ok_weaker}
use Rattle.presence_journal.specs.declared.step.Step.TheVariants as steps_are
use Rattle.tracker_index.proofs.FeedLemmas.{is_free, follows_subscribe, follows_take, follows_unsubscribe}
use Rattle.tracker_index.proofs.parts.feed.Goals as goal

pub subscribe-requires : goal.subscribe-requires
subscribe-requires c = is_free c.args.feeds.now c.args.entry.now c.requires

pub returns-in-Subscribe-clause-ok : goal.returns-in-Subscribe-clause-ok
returns-in-Subscribe-clause-ok c =
    on_ok_weaker c.subscribe.result
    (λ is. follows_subscribe c.args.entry.now c.args.turn.now c.in-Subscribe.topic c.args.feeds.now c.subscribe.new.self c.in-Subscribe.is is)
    c.subscribe.ensures.ok

pub returns-in-Take-clause-ok : goal.returns-in-Take-clause-ok
returns-in-Take-clause-ok c =
    follows_take c.args.entry.now c.args.turn.now c.in-Take.subscriber c.get.result c.args.feeds.now c.took.new.self
    (c.in-Take.is ∙ ap (λ (m : ℕ). steps_are.Take c.in-Take.subscriber m) (sym c.get.ensures.items)) c.took.ensures

pub returns-in-Unsubscribe-clause-ok : goal.returns-in-Unsubscribe-clause-ok
returns-in-Unsubscribe-clause-ok c =
    follows_unsubscribe c.args.entry.now c.args.turn.now c.in-Unsubscribe.subscriber c.args.feeds.now c.unsubscribe.new.self c.in-Unsubscribe.is c.unsubscribe.ensures
