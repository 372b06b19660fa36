use Rattle.std.proofs.Common.{◌≡◌, Option, IfOk, option_map, sym, ap, subst}
use Rattle.tracker_feeds.specs.Fed.{items_at_most}
use Rattle.tracker_feeds.specs.Rings.{Seen, seen, shared, waiting, HoldsNewest, IsReached}
use Rattle.tracker_feeds.proofs.followers.items_waiting.Goals as goal

pub items_after-requires-clause-held : goal.items_after-requires-clause-held
items_after-requires-clause-held c = subst HoldsNewest (ap (option_map seen) (sym c.in-Some.ensures.value)) c.requires.held

pub items_after-requires-clause-reached : goal.items_after-requires-clause-reached
items_after-requires-clause-reached c = subst (λ (o : Option Seen). IsReached o c.args.follower.now.next) (ap (option_map seen) (sym c.in-Some.ensures.value)) c.requires.reached

pub returns-in-None : goal.returns-in-None
returns-in-None c = absurd (subst (λ (o : Option Seen). IsReached o c.args.follower.now.next) (ap (option_map seen) (sym c.in-None.ensures.value)) c.requires.reached)

pub returns-in-Some : goal.returns-in-Some
returns-in-Some c = subst (λ (o : Option Seen). IfOk c.items_after.result (λ x. shared x ≡ items_at_most c.args.max (waiting o c.args.follower.now.next))) (ap (option_map seen) c.in-Some.ensures.value) c.items_after.ensures
