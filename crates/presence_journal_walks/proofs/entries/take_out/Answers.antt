use Rattle.std.proofs.Common.{◌≡◌, ◌+◌, ◌∷◌, List, drop, ◌∙◌, ap}
use Rattle.std.specs.BTreeMap.{get}
use Rattle.presence_base.specs.declared.dots.Dot.{Dot}
use Rattle.presence_base.specs.Order.{dot_cmp}
use Rattle.presence_journal.specs.History.{first_some}
use Rattle.presence_journal.specs.Walk.{without_dots, among}
use Rattle.presence_journal.proofs.Lookups.{without_more, among_more}
use Rattle.presence_journal.proofs.Walking.{drop_next}
use Rattle.presence_journal_walks.proofs.entries.take_out.Goals as goal

pub loop-dot-preserved : goal.loop-dot-preserved
loop-dot-preserved c =
    let l = c.loop-dot in
    let ds : List Dot = c.args.dots.now in
    let next : drop l.dot-index ds ≡ c.dot-item.result ∷ drop (l.dot-index + 1) ds = drop_next ds l.dot-index c.dot-item.result c.loop-dot-test.true c.dot-item.is in
    record {
      rows = λ d. l.invariant.rows d
          ∙ (ap (λ (xs : List Dot). without_dots xs (get dot_cmp l.rows) d) next
          ∙ without_more (get dot_cmp l.rows) (get dot_cmp c.move_row.new.rows) c.dot-item.result (drop (l.dot-index + 1) ds) c.in_ok-move_row.ensures.rows d);
      taken = λ d. l.invariant.taken d
          ∙ (ap (λ (xs : List Dot). first_some (among xs (get dot_cmp l.rows) d) (get dot_cmp l.taken d)) next
          ∙ among_more (get dot_cmp l.rows) (get dot_cmp c.move_row.new.rows) (get dot_cmp l.taken) (get dot_cmp c.move_row.new.taken) c.dot-item.result (drop (l.dot-index + 1) ds) c.in_ok-move_row.ensures.rows c.in_ok-move_row.ensures.taken d);
    }
