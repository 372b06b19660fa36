use Rattle.std.proofs.Common.{Option, option_map, sym, ap, ◌∙◌, subst}
use Rattle.presence_journal.specs.Queue.{is_waiting}
use Rattle.tracker_feeds.specs.Rings.{Seen, seen, waiting, HoldsNewest, IsReached}
use Rattle.tracker_feeds.proofs.followers.is_awaited.Goals as goal

pub is_awaited-requires-clause-held : goal.is_awaited-requires-clause-held
is_awaited-requires-clause-held c = subst HoldsNewest (ap (option_map seen) (sym c.in-Some.ensures.value)) c.requires.held

pub is_awaited-requires-clause-reached : goal.is_awaited-requires-clause-reached
is_awaited-requires-clause-reached c = subst (λ (o : Option Seen). IsReached o c.args.follower.now.next) (ap (option_map seen) (sym c.in-Some.ensures.value)) c.requires.reached

pub returns-in-None : goal.returns-in-None
returns-in-None c = absurd (subst (λ (o : Option Seen). IsReached o c.args.follower.now.next) (ap (option_map seen) (sym c.in-None.ensures.value)) c.requires.reached)

pub returns-in-Some : goal.returns-in-Some
returns-in-Some c = c.is_awaited.ensures ∙ ap (λ (o : Option Seen). is_waiting (waiting o c.args.follower.now.next)) (ap (option_map seen) c.in-Some.ensures.value)
