use Rattle.std.proofs.Common.{Option, sym, subst}
use Rattle.tracker_feeds.specs.Rings.{seen_at, moved_to, IsMoved}
use Rattle.tracker_feeds.specs.declared.followers.Follower.{Follower}
use Rattle.tracker_feeds.proofs.PutLemmas.{written_over}
use Rattle.tracker_feeds.proofs.followers.move_follower.Goals as goal

pub cursor_after-next-requires : goal.cursor_after-next-requires
cursor_after-next-requires c = c.requires c.in-Some.follower.now (sym c.in-Some.ensures.value)

pub returns-in-Some : goal.returns-in-Some
returns-in-Some c =
    let f : Follower = c.in-Some.follower.now in
    let g : Follower = moved_to f c.cursor_after-next.result in
    let n = c.get_mut.follows.lender g in
    subst (λ (o : Option Follower). IsMoved (seen_at c.args.rings.now) c.args.followers.now.entries n.entries c.args.number c.args.max o) c.in-Some.ensures.value
    (c.cursor_after-next.result, written_over c.args.followers.now n c.args.number f g (sym c.in-Some.ensures.value) (c.get_mut.follows.holds g), c.cursor_after-next.ensures)

pub returns-in_default : goal.returns-in_default
returns-in_default c = subst (λ (o : Option Follower). IsMoved (seen_at c.args.rings.now) c.args.followers.now.entries c.get_mut.follows.lender-at-none.entries c.args.number c.args.max o) c.in_default.ensures.value (λ i. (c.get_mut.follows.holds-at-none i).entries)
