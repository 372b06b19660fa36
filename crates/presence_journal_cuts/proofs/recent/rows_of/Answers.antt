use Rattle.std.proofs.Common.{◌∙◌, sym, ap, subst, List}
use Rattle.std.specs.BTreeMap.{get, is_at}
use Rattle.std.specs.FinMap as map
use Rattle.std.specs.Map.{lookup}
use Rattle.presence_base.specs.declared.dots.Dot.{Dot}
use Rattle.presence_base.specs.declared.row.Row.{Row}
use Rattle.presence_base.specs.Order.{dot_cmp}
use Rattle.presence_journal_cuts.proofs.PickedLemmas.{ArePicked, picked_none, picked_more, picked_all}
use Rattle.presence_journal_cuts.proofs.recent.rows_of.Goals as goal

pub loop-dot-init : goal.loop-dot-init
loop-dot-init c =
    let f = get dot_cmp c.new-rows.result in
    let whole = c.into_iter-dot-iterator.ensures.into_iter_gives ∙ c.rows-dot-items.ensures in
    subst (λ (rest : List (Dot × Row)). ArePicked c.args.own.now (map.entries c.args.set.now.live) rest f) (sym whole)
    (picked_none c.args.own.now c.args.set.now f (λ d. ap (λ (es : List (Dot × Row)). lookup (is_at (dot_cmp d)) es) c.new-rows.ensures.empty))

pub loop-dot-preserved : goal.loop-dot-preserved
loop-dot-preserved c =
    let es = map.entries c.args.set.now.live in
    let f = get dot_cmp c.loop-dot.rows in
    picked_more c.args.own.now es c.next.new.self (c.in-Some.dot.now, c.in-Some.row.now) c.is_of-is_kept.result c.in_ok-kept_row.field-0 f (get dot_cmp c.put_row.new.rows) c.is_of-is_kept.ensures c.in_ok-kept_row.ensures c.in_ok-put_row.ensures.ok
    (subst (λ (rest : List (Dot × Row)). ArePicked c.args.own.now es rest f) c.in-Some.ensures.steps c.loop-dot.invariant)

pub returns : goal.returns
returns c =
    let es = map.entries c.args.set.now.live in
    let f = get dot_cmp c.loop-dot.rows in
    picked_all c.args.own.now c.args.set.now f (subst (λ (rest : List (Dot × Row)). ArePicked c.args.own.now es rest f) c.in-None.ensures.steps.0 c.loop-dot.invariant)
