use Rattle.std.proofs.Common.{◌≡◌, Some, None, arith, ◌∙◌, sym, ap}
use Rattle.json.specs.Json.{after_end_array, skip_value}
use Rattle.serde_json.specs.Read.{max_depth}
use Rattle.json_parts.proofs.Places.{items_end}
use Rattle.json_parts.proofs.Walks.{item_passed, item_not_refused}
use Rattle.json_parts.proofs.brief.skip_items.Goals as goal

pub loop-reader-init : goal.loop-reader-init
loop-reader-init c = ((λ js rest at. (js, at)), omega arith)

pub returns-in_err-skip_value-clause-passed : goal.returns-in_err-skip_value-clause-passed
returns-in_err-skip_value-clause-passed c = λ js rest at.
    let l = c.loop-reader in
    let here = l.invariant.0 js rest at in
    let going : (after_end_array l.reader ≡ None) × (c.take_end_array.new.self ≡ l.reader) = grind arith in
    let refused : skip_value max_depth c.take_end_array.new.self ≡ None = grind arith in
    absurd (item_not_refused l.reader here.0 rest here.1 going.0 (ap (skip_value max_depth) (sym going.1) ∙ refused))

pub loop-reader-preserved : goal.loop-reader-preserved
loop-reader-preserved c =
    let l = c.loop-reader in
    let going : (after_end_array l.reader ≡ None) × (c.take_end_array.new.self ≡ l.reader) = grind arith in
    let passed : skip_value max_depth c.take_end_array.new.self ≡ Some c.skip_value.new.self = grind arith in (
      (λ js rest at.
          let here = l.invariant.0 js rest at in
          item_passed l.reader c.skip_value.new.self here.0 rest here.1 going.0 (ap (skip_value max_depth) (sym going.1) ∙ passed)),
      grind arith,
    )

pub returns-clause-passed : goal.returns-clause-passed
returns-clause-passed c = λ js rest at.
    let l = c.loop-reader in
    let here = l.invariant.0 js rest at in
    let over : after_end_array l.reader ≡ Some c.take_end_array.new.self = grind arith in
    (tt, (items_end l.reader c.take_end_array.new.self here.0 rest here.1 over).1)
