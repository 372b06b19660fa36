use Rattle.std.proofs.Common.{◌≡◌, Some, None, Ok, sym, ap, ◌∙◌, subst, arith}
use Rattle.serde_json.specs.View.{view}
use Rattle.json_parts.specs.Items.{IsNext}
use Rattle.json_parts.specs.Places.{data_of, items_data}
use Rattle.link_lines.specs.Results.{or_bad}
use Rattle.link_lines.specs.Telling.{range_in, each_in}
use Rattle.link_lines.proofs.Brief.{range_shallow}
use Rattle.link_lines.proofs.Each.{before, before_all, found_one, found_none, found_all}
use Rattle.link_lines.proofs.Memory.{out_of_memory}
use Rattle.link_lines.proofs.telling.ranges_in.Goals as goal

pub loop-ranges-init : goal.loop-ranges-init
loop-ranges-init c = λ all rest at.
    (all, at, ap (λ l. before l (each_in range_in (items_data all))) c.new-ranges.ensures.items ∙ before_all (each_in range_in (items_data all)))

pub loop-ranges-preserved : goal.loop-ranges-preserved
loop-ranges-preserved c = λ all rest at.
    let l = c.loop-ranges in
    let here = l.invariant all rest at in
    let n = subst (λ o. IsNext 9 here.0 rest c.next_shallow.new.reader (Ok o)) c.in-Some.is (c.in_ok-item.ensures.next here.0 rest here.1) in
    let found : range_in (data_of n.0) ≡ Some c.in-Some-range_from.range = sym (range_shallow (data_of n.0)) ∙ ap range_in (sym n.3) ∙ sym c.in-Some-range_from.ensures in
    (n.1, n.4, found_one range_in here.0 n.1 n.0 l.ranges.items c.push.new.list.items c.in-Some-range_from.range (each_in range_in (items_data all)) n.2 found c.in_ok-push.ensures here.2)

pub returns-in_err-item : goal.returns-in_err-item
returns-in_err-item c = λ all rest at.
    let here = c.loop-ranges.invariant all rest at in
    let memory = c.in_err-item.ensures.next here.0 rest here.1 in
    out_of_memory (λ v. v.items) c.next_shallow.new.reader rest c.from_residual.result (or_bad (each_in range_in (items_data all))) (grind (arith, memory))

pub returns-in_default-range_from : goal.returns-in_default-range_from
returns-in_default-range_from c = λ all rest at.
    let l = c.loop-ranges in
    let here = l.invariant all rest at in
    let n = subst (λ o. IsNext 9 here.0 rest c.next_shallow.new.reader (Ok o)) c.in-Some.is (c.in_ok-item.ensures.next here.0 rest here.1) in
    let missing : range_in (view c.in-Some.item) ≡ None = grind arith in
    let none : range_in (data_of n.0) ≡ None = sym (range_shallow (data_of n.0)) ∙ ap range_in (sym n.3) ∙ missing in
    found_none range_in here.0 n.1 n.0 l.ranges.items (each_in range_in (items_data all)) n.2 none here.2

pub returns : goal.returns
returns c = λ all rest at.
    let l = c.loop-ranges in
    let here = l.invariant all rest at in
    let n = subst (λ o. IsNext 9 here.0 rest c.next_shallow.new.reader (Ok o)) c.in_default.is (c.in_ok-item.ensures.next here.0 rest here.1) in
    (found_all range_in here.0 l.ranges.items (each_in range_in (items_data all)) n.0 here.2, n.1)
