use Rattle.std.proofs.Common.{◌≡◌, ◌+◌, ◌∷◌, List, drop, ◌∙◌, ap}
use Rattle.std.specs.BTreeMap.{get}
use Rattle.presence_base.specs.declared.dots.Dot.{Dot}
use Rattle.presence_base.specs.Order.{dot_cmp}
use Rattle.presence_journal.specs.Walk.{without_dots}
use Rattle.presence_journal.proofs.Lookups.{without_one, without_more}
use Rattle.presence_journal.proofs.Walking.{drop_next}
use Rattle.presence_journal_cuts.proofs.recent.drop_dots.Goals as goal

pub loop-dot-preserved : goal.loop-dot-preserved
loop-dot-preserved c =
    let l = c.loop-dot in
    let ds : List Dot = c.args.dots.now in
    let next : drop l.dot-index ds ≡ c.dot-item.result ∷ drop (l.dot-index + 1) ds = drop_next ds l.dot-index c.dot-item.result c.loop-dot-test.true c.dot-item.is in
    λ d. l.invariant d
    ∙ (ap (λ (xs : List Dot). without_dots xs (get dot_cmp l.rows) d) next
    ∙ without_more (get dot_cmp l.rows) (get dot_cmp c.drop_dot.new.rows) c.dot-item.result (drop (l.dot-index + 1) ds) (without_one (get dot_cmp l.rows) (get dot_cmp c.drop_dot.new.rows) c.dot-item.result c.drop_dot.ensures) d)
