use Rattle.std.proofs.Common.{◌≡◌, Some, None, option_map, ap, ◌∙◌, subst}
use Rattle.presence_journal.specs.Queue.{is_waiting}
use Rattle.tracker_feeds.specs.Fed.{Subscriber, Fed, waits_at}
use Rattle.tracker_feeds.specs.Rings.{seen_at}
use Rattle.tracker_feeds.proofs.FedLemmas.{can_take}
use Rattle.tracker_feeds.proofs.FeedsLemmas.{found_at, looked_at}
use Rattle.tracker_feeds.proofs.feeds.Feeds.waits.Goals as goal

pub is_awaited-requires-clause-held : goal.is_awaited-requires-clause-held
is_awaited-requires-clause-held c =
    let f = c.self.inside in
    (can_take (seen_at f.rings) f.followers.entries f.delivered c.args.number c.in-Some.follower.now c.self.invariant (looked_at f.followers.entries c.args.number (Some c.in-Some.follower.now) c.in-Some.ensures.value)).held

pub is_awaited-requires-clause-reached : goal.is_awaited-requires-clause-reached
is_awaited-requires-clause-reached c =
    let f = c.self.inside in
    (can_take (seen_at f.rings) f.followers.entries f.delivered c.args.number c.in-Some.follower.now c.self.invariant (looked_at f.followers.entries c.args.number (Some c.in-Some.follower.now) c.in-Some.ensures.value)).reached

pub returns-in-Some : goal.returns-in-Some
returns-in-Some c =
    let f = c.self.inside in
    subst (λ (v : Fed). Some c.is_awaited.result ≡ waits_at v c.args.number) c.self.view_is
    (ap Some c.is_awaited.ensures ∙ ap (option_map (λ (s : Subscriber). is_waiting s.waiting)) (found_at (seen_at f.rings) f.followers.entries f.delivered c.args.number (Some c.in-Some.follower.now) c.in-Some.ensures.value))

pub returns-in-None : goal.returns-in-None
returns-in-None c =
    let f = c.self.inside in
    subst (λ (v : Fed). None ≡ waits_at v c.args.number) c.self.view_is
    (ap (option_map (λ (s : Subscriber). is_waiting s.waiting)) (found_at (seen_at f.rings) f.followers.entries f.delivered c.args.number None c.in-None.ensures.value))
