use Rattle.std.proofs.Common.{◌≡◌, Option, Some, None, IfOk, ap, subst}
use Rattle.tracker_feeds.specs.Fed.{Subscriber, Fed, found, items_of}
use Rattle.tracker_feeds.specs.Rings.{seen_at, shared}
use Rattle.tracker_feeds.proofs.FedLemmas.{can_take}
use Rattle.tracker_feeds.proofs.FeedsLemmas.{found_at, looked_at}
use Rattle.tracker_feeds.proofs.feeds.Feeds.given.Goals as goal

pub items_waiting-requires-clause-held : goal.items_waiting-requires-clause-held
items_waiting-requires-clause-held c =
    let f = c.self.inside in
    (can_take (seen_at f.rings) f.followers.entries f.delivered c.args.number c.in-Some.follower.now c.self.invariant (looked_at f.followers.entries c.args.number (Some c.in-Some.follower.now) c.in-Some.ensures.value)).held

pub items_waiting-requires-clause-reached : goal.items_waiting-requires-clause-reached
items_waiting-requires-clause-reached c =
    let f = c.self.inside in
    (can_take (seen_at f.rings) f.followers.entries f.delivered c.args.number c.in-Some.follower.now c.self.invariant (looked_at f.followers.entries c.args.number (Some c.in-Some.follower.now) c.in-Some.ensures.value)).reached

pub returns-in-Some : goal.returns-in-Some
returns-in-Some c =
    let f = c.self.inside in
    subst (λ (v : Fed). IfOk c.items_waiting.result (λ o. shared o ≡ items_of c.args.max (found v c.args.number))) c.self.view_is
    (subst (λ (w : Option Subscriber). IfOk c.items_waiting.result (λ o. shared o ≡ items_of c.args.max w)) (found_at (seen_at f.rings) f.followers.entries f.delivered c.args.number (Some c.in-Some.follower.now) c.in-Some.ensures.value) c.items_waiting.ensures)

pub returns-in-None : goal.returns-in-None
returns-in-None c =
    let f = c.self.inside in
    subst (λ (v : Fed). None ≡ items_of c.args.max (found v c.args.number)) c.self.view_is
    (ap (items_of c.args.max) (found_at (seen_at f.rings) f.followers.entries f.delivered c.args.number None c.in-None.ensures.value))
