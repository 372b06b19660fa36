use Rattle.std.proofs.Common.{◌≡◌, Option, Some, option_map, sym, ap, subst}
use Rattle.presence_journal.specs.Queue.{left_by}
use Rattle.tracker_feeds.specs.Rings.{Seen, seen, waiting, HoldsNewest, IsReached}
use Rattle.tracker_feeds.proofs.followers.cursor_after.Goals as goal

pub cursor_after-requires-clause-held : goal.cursor_after-requires-clause-held
cursor_after-requires-clause-held c = subst HoldsNewest (ap (option_map seen) (sym c.in-Some.ensures.value)) c.requires.held

pub cursor_after-requires-clause-reached : goal.cursor_after-requires-clause-reached
cursor_after-requires-clause-reached c = subst (λ (o : Option Seen). IsReached o c.args.follower.now.next) (ap (option_map seen) (sym c.in-Some.ensures.value)) c.requires.reached

pub returns-in-None : goal.returns-in-None
returns-in-None c = absurd (subst (λ (o : Option Seen). IsReached o c.args.follower.now.next) (ap (option_map seen) (sym c.in-None.ensures.value)) c.requires.reached)

pub returns-in-Some : goal.returns-in-Some
returns-in-Some c =
    let e = ap (option_map seen) c.in-Some.ensures.value in
    record {
      waits = subst (λ (o : Option Seen). waiting o (Some c.cursor_after.result) ≡ left_by c.args.max (waiting o c.args.follower.now.next)) e c.cursor_after.ensures.left;
      reached = subst (λ (o : Option Seen). IsReached o (Some c.cursor_after.result)) e c.cursor_after.ensures.reached;
    }
