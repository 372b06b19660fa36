use Rattle.std.proofs.Common.{rules, ◌≡◌, ◌∷◌, true, is_eq}
use Rattle.std.specs.Arc.{arc_value}
use Rattle.presence_base.specs.Order.{dot_cmp}
use Rattle.presence_journal.specs.ListedDots.{piece_dots}
use Rattle.presence_journal.proofs.ListedLemmas.{begins_further}
use Rattle.presence_journal.proofs.listed_dots.behind_piece.Goals as goal

pub loop-dot-init : goal.loop-dot-init
loop-dot-init c =
    let row = c.in_ok-row.row.now in
    let rows : c.args.rows.now ≡ row ∷ c.in_ok-row.more.now = search rules in
    let held = arc_value c.args.piece.now.held in
    let first : is_eq (dot_cmp row.0 held.first) ≡ true = search rules in
    let dots : piece_dots c.args.piece.now ≡ held.first ∷ c.as_slice-dots.result.now = search rules in
    begins_further (piece_dots c.args.piece.now) c.as_slice-dots.result.now held.first c.args.rows.now c.in_ok-row.more.now row dots rows first

pub loop-dot-preserved : goal.loop-dot-preserved
loop-dot-preserved c = λ t b.
    let row = c.in-Some-split_first.row.now in
    let dot = c.in-Some.dot.now in
    let dots : c.loop-dot.dots.now ≡ dot ∷ c.in-Some.others.now = search rules in
    let left : c.loop-dot.left.now ≡ row ∷ c.in-Some-split_first.behind.now = search rules in
    let same : is_eq (dot_cmp row.0 dot) ≡ true = search rules in
    c.loop-dot.invariant t (begins_further c.loop-dot.dots.now c.in-Some.others.now dot c.loop-dot.left.now c.in-Some-split_first.behind.now row dots left same t b)
