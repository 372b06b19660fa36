use Rattle.std.proofs.Common.{◌≡◌, ◌+◌, ◌∷◌, List, drop, drop_of_length-le, sym, ◌∙◌, ap}
use Rattle.std.specs.BTreeMap.{get, is_at}
use Rattle.std.specs.Map.{lookup}
use Rattle.presence_base.specs.declared.dots.Dot.{Dot}
use Rattle.presence_base.specs.declared.row.Row.{Row}
use Rattle.presence_base.specs.Order.{dot_cmp}
use Rattle.presence_journal.specs.History.{first_some}
use Rattle.presence_journal.proofs.Walking.{drop_next}
use Rattle.presence_journal_cuts.specs.Chains.{rows_recent}
use Rattle.presence_journal_cuts.proofs.Starts.{first_none, rows_more}
use Rattle.presence_journal_cuts.proofs.kept.kept_rows.Goals as goal

abbrev Kept : Type 0
Kept = List (Dot × Row)

pub loop-row-init : goal.loop-row-init
loop-row-init c = λ d. ap (λ (es : Kept). first_some (lookup (is_at (dot_cmp d)) es) (rows_recent c.args.start.now c.live-live.result.now d)) c.new-rows.ensures.empty

pub loop-row-preserved : goal.loop-row-preserved
loop-row-preserved c =
    let l = c.loop-row in
    let s = c.args.start.now in
    let xs : Kept = c.live-live.result.now in
    let next : drop l.row-index xs ≡ c.row-item.result ∷ drop (l.row-index + 1) xs = drop_next xs l.row-index c.row-item.result c.loop-row-test.true c.row-item.is in
    λ d. rows_more s (get dot_cmp l.rows) (get dot_cmp c.keep_recent.new.rows) c.row-item.result (drop (l.row-index + 1) xs) (drop l.row-index xs) d next (c.in_ok-keep_recent.ensures d) ∙ l.invariant d

pub returns : goal.returns
returns c =
    let l = c.loop-row in
    let s = c.args.start.now in
    let xs : Kept = c.live-live.result.now in
    λ d. sym (first_none (get dot_cmp l.rows d))
    ∙ (ap (λ (es : Kept). first_some (get dot_cmp l.rows d) (rows_recent s es d)) (sym (drop_of_length-le xs c.loop-row-test.false))
    ∙ (l.invariant d ∙ ap (λ (es : Kept). rows_recent s es d) c.live-live.ensures.live))
