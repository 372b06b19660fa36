use Rattle.std.proofs.Common.{◌∙◌, sym, ap, subst, not, List}
use Rattle.std.specs.BTreeMap.{get, is_at}
use Rattle.std.specs.Map.{lookup}
use Rattle.presence_base.specs.declared.dots.Dot.{Dot}
use Rattle.presence_base.specs.declared.row.Row.{Row}
use Rattle.presence_base.specs.Order.{dot_cmp}
use Rattle.presence_journal_walks.proofs.ShownLemmas.{ArePicked, is_missing_in, picked_none, picked_more, missing_all}
use Rattle.presence_journal_walks.proofs.rows.rows_without.Goals as goal

pub loop-dot-init : goal.loop-dot-init
loop-dot-init c =
    let p = is_missing_in (get dot_cmp c.args.others.now) in
    let f = get dot_cmp c.new-kept.result in
    let es = c.args.rows.now.entries in
    let whole = c.into_iter-dot-iterator.ensures.into_iter_gives ∙ c.iter-dot-items.ensures.rest in
    subst (λ (rest : List (Dot × Row)). ArePicked p es rest f) (sym whole)
    (picked_none p es f c.iter-dot-items.ensures.ordered (λ d. ap (λ (xs : List (Dot × Row)). lookup (is_at (dot_cmp d)) xs) c.new-kept.ensures.empty))

pub loop-dot-preserved : goal.loop-dot-preserved
loop-dot-preserved c =
    let p = is_missing_in (get dot_cmp c.args.others.now) in
    let f = get dot_cmp c.loop-dot.kept in
    let es = c.args.rows.now.entries in
    picked_more p es c.next.new.self (c.in-Some.dot.now, c.in-Some.row.now) (not c.contains_key-is_kept.result) c.in_ok-kept_row.field-0 f (get dot_cmp c.put_row.new.rows) (ap not c.contains_key-is_kept.ensures) c.in_ok-kept_row.ensures c.in_ok-put_row.ensures
    (subst (λ (rest : List (Dot × Row)). ArePicked p es rest f) c.in-Some.ensures.steps c.loop-dot.invariant)

pub returns : goal.returns
returns c =
    let g = get dot_cmp c.args.others.now in
    let f = get dot_cmp c.loop-dot.kept in
    missing_all c.args.rows.now f g (subst (λ (rest : List (Dot × Row)). ArePicked (is_missing_in g) c.args.rows.now.entries rest f) c.in-None.ensures.steps.0 c.loop-dot.invariant)
