use Rattle.std.proofs.Common.{◌≡◌, ◌≤◌, ◌<◌, ◌+◌, ◌++◌, ◌∷◌, [], Some, None, length, sym, ap, ◌∙◌, subst, arith, length-append}
use Rattle.json.specs.Json.{after_end_array}
use Rattle.json.specs.Tree.{items_tokens}
use Rattle.json_parts.specs.Items.{after}
use Rattle.json_parts.specs.Places.{At, AtItems}
use Rattle.json_parts.proofs.Places.{items_end, items_next}
use Rattle.json_parts.proofs.Walks.{few_start, few_step, few_ended, few_full}
use Rattle.json_parts.proofs.items.few_items.Goals as goal

pub loop-alloc-init : goal.loop-alloc-init
loop-alloc-init c =
    ((λ all rest at. let s = few_start c.args.most c.new-items.result.items all c.new-items.ensures.items in (all, at, s.0, s.1)), grind arith, grind arith)

pub loop-alloc-preserved : goal.loop-alloc-preserved
loop-alloc-preserved c =
    let l = c.loop-alloc in
    let going : (after_end_array l.reader ≡ None) × (c.take_end_array.new.self ≡ l.reader) = grind arith in
    let lt : length l.items.items < c.args.most = grind arith in
    let longer : length c.push.new.items.items ≡ length l.items.items + 1 = ap length c.in_ok-push.ensures ∙ length-append l.items.items (c.in_ok-item.item ∷ []) in (
      (λ all rest at.
          let here = l.invariant.0 all rest at in
          few_step c.args.most l.items.items c.push.new.items.items c.in_ok-item.item l.reader c.brief.new.reader here.0 all rest lt here.1 going.0 here.2 here.3 c.in_ok-push.ensures
          (λ j more stands. c.in_ok-item.ensures.read j more (subst (λ ts. At ts j more) (sym going.1) stands))),
      grind arith,
      omega (arith, longer, lt),
    )

pub returns-in_err-item-clause-few : goal.returns-in_err-item-clause-few
returns-in_err-item-clause-few c = λ all rest at.
    let l = c.loop-alloc in
    let going : (after_end_array l.reader ≡ None) × (c.take_end_array.new.self ≡ l.reader) = grind arith in
    let here = l.invariant.0 all rest at in
    let n = items_next l.reader here.0 rest here.1 going.0 in
    let more = items_tokens n.1 ++ rest in
    let memory = c.in_err-item.ensures.read n.0 more (subst (λ ts. At ts n.0 more) (sym going.1) n.3) in
    grind (arith, memory)

pub returns-then-take_end_array-clause-few : goal.returns-then-take_end_array-clause-few
returns-then-take_end_array-clause-few c = λ all rest at.
    let l = c.loop-alloc in
    let here = l.invariant.0 all rest at in
    let over : after_end_array l.reader ≡ Some c.take_end_array.new.self = grind arith in
    let end = items_end l.reader c.take_end_array.new.self here.0 rest here.1 over in
    let lt : length l.items.items < c.args.most = grind arith in
    (few_ended c.args.most l.items.items here.0 all end.0 here.3, ((λ full. absurd (omega (arith, lt, full))), (λ less. end.1)))

pub returns-clause-few : goal.returns-clause-few
returns-clause-few c = λ all rest at.
    let l = c.loop-alloc in
    let here = l.invariant.0 all rest at in
    let full : c.args.most ≤ length l.items.items = grind arith in
    let same : length l.items.items ≡ c.args.most = omega (arith, full, l.invariant.2) in (
      few_full c.args.most l.items.items here.0 all full here.3,
      ((λ many. subst (λ js. AtItems l.reader js rest) (sym here.2 ∙ ap (λ n. after n all) same) here.1), (λ less. absurd (omega (arith, full, less)))),
    )
