use Rattle.std.proofs.Common.{◌≡◌, ◌++◌, Err, sym, subst, arith}
use Rattle.json.specs.Json as json
use Rattle.json.specs.Tree.{items_tokens}
use Rattle.serde_json.specs.Data.{array}
use Rattle.json_parts.specs.Items.{Begins}
use Rattle.json_parts.specs.Places.{items_data}
use Rattle.link_lines.specs.ReadingMembers.{IsNextRow}
use Rattle.link_lines.specs.Results.{or_bad}
use Rattle.link_lines.specs.Rows.{kept_row_in}
use Rattle.link_lines.specs.Telling.{each_in}
use Rattle.link_lines.proofs.Memory.{fails_on}
use Rattle.link_lines.proofs.NextRow.{row_is, first_fault}
use Rattle.link_lines.proofs.telling.next_row.Goals as goal

pub returns-in-End-clause-row : goal.returns-in-End-clause-row
returns-in-End-clause-row c = λ js rest at. subst (Begins js rest c.begin.new.reader) c.in-End.is (c.begin.ensures.begun js rest at)

pub returns-in_err-row_of-in-Array-clause-row : goal.returns-in_err-row_of-in-Array-clause-row
returns-in_err-row_of-in-Array-clause-row c = λ js rest at.
    let b = subst (Begins js rest c.begin.new.reader) c.in-Array.is (c.begin.ensures.begun js rest at) in
    let e = c.in_err-row_of-in-Array.field-0.0 in
    let same : c.from_residual.result ≡ Err e = grind arith in
    subst (IsNextRow js rest c.row_of.new.reader) (sym same)
    (fails_on e (or_bad (kept_row_in (array (items_data b.0)))) (or_bad (each_in kept_row_in (items_data js)))
    (c.in_err-row_of-in-Array.ensures.row b.0 (items_tokens b.1 ++ rest) b.3) (λ f h. first_fault js b.1 (json.array b.0) f b.2 h))

pub returns-in_ok-row_of-in-Array-clause-row : goal.returns-in_ok-row_of-in-Array-clause-row
returns-in_ok-row_of-in-Array-clause-row c = λ js rest at.
    let b = subst (Begins js rest c.begin.new.reader) c.in-Array.is (c.begin.ensures.begun js rest at) in
    let read = c.in_ok-row_of-in-Array.ensures.row b.0 (items_tokens b.1 ++ rest) b.3 in
    (json.array b.0, b.1, b.2, row_is (kept_row_in (array (items_data b.0))) c.in_ok-row_of-in-Array.field-0 read.0, (read.1, b.4))
