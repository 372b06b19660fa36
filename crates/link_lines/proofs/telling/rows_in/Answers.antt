use Rattle.std.proofs.Common.{◌≡◌, Ok, Err, ap, ◌∙◌, subst, arith}
use Rattle.json_parts.specs.Places.{items_data}
use Rattle.link_lines.specs.ReadingMembers.{IsNextRow}
use Rattle.link_lines.specs.Results.{or_bad}
use Rattle.link_lines.specs.Rows.{kept_row_in}
use Rattle.link_lines.specs.Telling.{each_in}
use Rattle.link_lines.proofs.Each.{before, before_all, found_one, found_all, fault_of_one}
use Rattle.link_lines.proofs.Memory.{fails_on, found_fault}
use Rattle.link_lines.proofs.telling.rows_in.Goals as goal

pub loop-rows-init : goal.loop-rows-init
loop-rows-init c = λ all rest at.
    (all, at, ap (λ l. before l (each_in kept_row_in (items_data all))) c.new-rows.ensures.items ∙ before_all (each_in kept_row_in (items_data all)))

pub loop-rows-preserved : goal.loop-rows-preserved
loop-rows-preserved c = λ all rest at.
    let l = c.loop-rows in
    let here = l.invariant all rest at in
    let n = subst (λ o. IsNextRow here.0 rest c.next_row.new.reader (Ok o)) c.in-Some.is (c.in_ok-row.ensures.row here.0 rest here.1) in
    (n.1, n.4, found_one kept_row_in here.0 n.1 n.0 l.rows.items c.push_row.new.rows.items c.in-Some.row (each_in kept_row_in (items_data all)) n.2 n.3 c.in_ok-push_row.ensures here.2)

pub returns-in_err-row : goal.returns-in_err-row
returns-in_err-row c = λ all rest at.
    let l = c.loop-rows in
    let here = l.invariant all rest at in
    let e = c.in_err-row.field-0.0 in
    let same : c.from_residual.result ≡ Err e = grind arith in
    let whole = or_bad (each_in kept_row_in (items_data all)) in
    found_fault (λ v. v.items) c.next_row.new.reader rest c.from_residual.result whole e same
    (fails_on e (or_bad (each_in kept_row_in (items_data here.0))) whole (c.in_err-row.ensures.row here.0 rest here.1)
    (λ f h. fault_of_one kept_row_in here.0 l.rows.items (each_in kept_row_in (items_data all)) f here.2 h))

pub returns : goal.returns
returns c = λ all rest at.
    let l = c.loop-rows in
    let here = l.invariant all rest at in
    let n = subst (λ o. IsNextRow here.0 rest c.next_row.new.reader (Ok o)) c.in_default.is (c.in_ok-row.ensures.row here.0 rest here.1) in
    (found_all kept_row_in here.0 l.rows.items (each_in kept_row_in (items_data all)) n.0 here.2, n.1)
