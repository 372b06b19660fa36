use Rattle.std.proofs.Common.{◌≡◌, Some, None, Ok, sym, ap, ◌∙◌, subst, arith}
use Rattle.serde_json.specs.View.{view}
use Rattle.json_parts.specs.Items.{IsNext}
use Rattle.json_parts.specs.Places.{data_of, items_data}
use Rattle.link_lines.specs.Results.{or_bad}
use Rattle.link_lines.specs.Telling.{extra_in, each_in}
use Rattle.link_lines.proofs.Brief.{extra_shallow}
use Rattle.link_lines.proofs.Each.{before, before_all, found_one, found_none, found_all}
use Rattle.link_lines.proofs.Memory.{out_of_memory}
use Rattle.link_lines.proofs.telling.extras_in.Goals as goal

pub loop-dots-init : goal.loop-dots-init
loop-dots-init c = λ all rest at.
    (all, at, ap (λ l. before l (each_in extra_in (items_data all))) c.new-dots.ensures.items ∙ before_all (each_in extra_in (items_data all)))

pub loop-dots-preserved : goal.loop-dots-preserved
loop-dots-preserved c = λ all rest at.
    let l = c.loop-dots in
    let here = l.invariant all rest at in
    let n = subst (λ o. IsNext 9 here.0 rest c.next_shallow.new.reader (Ok o)) c.in-Some.is (c.in_ok-item.ensures.next here.0 rest here.1) in
    let found : extra_in (data_of n.0) ≡ Some c.in-Some-extra_from.dot = sym (extra_shallow (data_of n.0)) ∙ ap extra_in (sym n.3) ∙ sym c.in-Some-extra_from.ensures in
    (n.1, n.4, found_one extra_in here.0 n.1 n.0 l.dots.items c.push.new.list.items c.in-Some-extra_from.dot (each_in extra_in (items_data all)) n.2 found c.in_ok-push.ensures here.2)

pub returns-in_err-item : goal.returns-in_err-item
returns-in_err-item c = λ all rest at.
    let here = c.loop-dots.invariant all rest at in
    let memory = c.in_err-item.ensures.next here.0 rest here.1 in
    out_of_memory (λ v. v.items) c.next_shallow.new.reader rest c.from_residual.result (or_bad (each_in extra_in (items_data all))) (grind (arith, memory))

pub returns-in_default-extra_from : goal.returns-in_default-extra_from
returns-in_default-extra_from c = λ all rest at.
    let l = c.loop-dots in
    let here = l.invariant all rest at in
    let n = subst (λ o. IsNext 9 here.0 rest c.next_shallow.new.reader (Ok o)) c.in-Some.is (c.in_ok-item.ensures.next here.0 rest here.1) in
    let missing : extra_in (view c.in-Some.item) ≡ None = grind arith in
    let none : extra_in (data_of n.0) ≡ None = sym (extra_shallow (data_of n.0)) ∙ ap extra_in (sym n.3) ∙ missing in
    found_none extra_in here.0 n.1 n.0 l.dots.items (each_in extra_in (items_data all)) n.2 none here.2

pub returns : goal.returns
returns c = λ all rest at.
    let l = c.loop-dots in
    let here = l.invariant all rest at in
    let n = subst (λ o. IsNext 9 here.0 rest c.next_shallow.new.reader (Ok o)) c.in_default.is (c.in_ok-item.ensures.next here.0 rest here.1) in
    (found_all extra_in here.0 l.dots.items (each_in extra_in (items_data all)) n.0 here.2, n.1)
