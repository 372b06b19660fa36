use Rattle.std.proofs.Common.{◌∙◌, ap, refl}
use Rattle.presence_journal.specs.History.{own_after}
use Rattle.tracker_feeds.proofs.LawLemmas as laws
use Rattle.tracker_index.specs.declared.parts.Stage.TheVariants.{Delivered}
use Rattle.tracker_index.proofs.PartLemmas.{half_shown, not_fed, delivered}
use Rattle.tracker_index.proofs.parts.Parts.deliver.Goals as goal

pub returns-in_err-bring_up-clause-kept : goal.returns-in_err-bring_up-clause-kept
returns-in_err-bring_up-clause-kept c =
    let p = c.args.self.now in
    half_shown c.args.entry.now p (record { known = p.known; shown = c.bring_up.new.self; feeds = p.feeds; untold = p.untold; stage = p.stage }) c.in_ok-turn.turn c.own_after-own.result
    c.requires.stage c.in_ok-turn.ensures (λ h k. c.own_after-own.ensures ∙ ap (own_after c.args.entry.now.step) (c.own.ensures h k)) c.in_err-bring_up.ensures.err refl refl refl c.requires.stage

pub returns-in_err-feed-clause-kept : goal.returns-in_err-feed-clause-kept
returns-in_err-feed-clause-kept c =
    let p = c.args.self.now in
    not_fed c.args.entry.now p (record { known = p.known; shown = c.bring_up.new.self; feeds = c.feed.new.feeds; untold = p.untold; stage = p.stage }) c.in_ok-turn.turn c.own_after-own.result
    laws.same c.requires.stage c.in_ok-turn.ensures (λ h k. c.own_after-own.ensures ∙ ap (own_after c.args.entry.now.step) (c.own.ensures h k)) c.in_ok-bring_up.ensures.ok c.in_err-feed.ensures.err refl refl c.requires.stage

pub returns-clause-kept : goal.returns-clause-kept
returns-clause-kept c =
    let p = c.args.self.now in
    delivered c.args.entry.now p (record { known = p.known; shown = c.go_on_as.new.self; feeds = c.feed.new.feeds; untold = p.untold; stage = Delivered }) c.in_ok-turn.turn c.own_after-own.result c.bring_up.new.self
    c.requires.stage c.in_ok-turn.ensures (λ h k. c.own_after-own.ensures ∙ ap (own_after c.args.entry.now.step) (c.own.ensures h k)) c.in_ok-bring_up.ensures.ok c.go_on_as.ensures.own c.go_on_as.ensures.rows c.in_ok-feed.ensures.ok refl refl refl
