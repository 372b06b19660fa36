use Rattle.std.proofs.Common.{ℕ, ◌+◌, drop_of_length-le, subst, sym}
use Rattle.presence_journal.proofs.Walking.{drop_next}
use Rattle.serve_connections.proofs.Sparings.{LeftTo, left_next, left_end}
use Rattle.serve_connections.proofs.sparing.left_by.Goals as goal

pub loop-item-init : goal.loop-item-init
loop-item-init c = λ r h. h

pub loop-item-preserved : goal.loop-item-preserved
loop-item-preserved c =
    let l = c.loop-item in
    subst (λ (n : ℕ). LeftTo c.args.items.now c.args.room (l.item-index + 1) n) (sym c.saturating_sub-left.ensures)
    (left_next c.args.items.now c.args.room l.item-index l.left c.weight.result c.item-item.result
    (drop_next c.args.items.now l.item-index c.item-item.result c.loop-item-test.true c.item-item.is) c.weight.ensures l.invariant)

pub returns : goal.returns
returns c =
    let l = c.loop-item in
    left_end c.args.items.now c.args.room l.item-index l.left (drop_of_length-le c.args.items.now c.loop-item-test.false) l.invariant
