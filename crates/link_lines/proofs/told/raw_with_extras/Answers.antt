use Rattle.std.proofs.Common.{◌≡◌, Err, ap, ◌∙◌, arith}
use Rattle.serde_json.specs.Data.{array, item}
use Rattle.orswot_core.specs.Checks.{raw_value}
use Rattle.orswot_core.specs.declared.form.Form.TheVariants.{One}
use Rattle.json_parts.specs.Places.{data_of, items_data}
use Rattle.link_lines.specs.ReadingMembers.{first_in, none_left, kept_told_in}
use Rattle.link_lines.specs.Results.{or_bad}
use Rattle.link_lines.specs.Rows.{kept_row_in}
use Rattle.link_lines.specs.Telling.{range_in, extra_in, list_in}
use Rattle.link_lines.proofs.Memory.{fails_on, found_fault}
use Rattle.link_lines.proofs.RawParts.{one_ranges, one_extras, one_rows, one_ended, one_all}
use Rattle.link_lines.proofs.told.raw_with_extras.Goals as goal

pub returns-in_err-ranges-clause-value : goal.returns-in_err-ranges-clause-value
returns-in_err-ranges-clause-value c = λ js rest at.
    let whole = kept_told_in One (array (items_data js)) in
    let e = c.in_err-ranges.field-0.0 in
    let same : c.from_residual.result ≡ Err e = grind arith in
    found_fault raw_value c.next_ranges.new.reader rest c.from_residual.result whole e same
    (fails_on e (or_bad (first_in (list_in range_in) (items_data js))) whole (c.in_err-ranges.ensures js rest at) (one_ranges (items_data js)))

pub returns-in_err-extras-clause-value : goal.returns-in_err-extras-clause-value
returns-in_err-extras-clause-value c = λ js rest at.
    let whole = kept_told_in One (array (items_data js)) in
    let a = c.in_ok-ranges.ensures js rest at in
    let e = c.in_err-extras.field-0.0 in
    let same : c.from_residual-in_err-extras.result ≡ Err e = grind arith in
    found_fault raw_value c.next_extras.new.reader rest c.from_residual-in_err-extras.result whole e same
    (fails_on e (or_bad (first_in (list_in extra_in) (items_data a.1))) whole (c.in_err-extras.ensures a.1 rest a.4)
    (λ f h. ap (λ l. kept_told_in One (array (items_data l))) a.2 ∙ one_extras (data_of a.0) (items_data a.1) f h))

pub returns-in_err-live-clause-value : goal.returns-in_err-live-clause-value
returns-in_err-live-clause-value c = λ js rest at.
    let whole = kept_told_in One (array (items_data js)) in
    let a = c.in_ok-ranges.ensures js rest at in
    let b = c.in_ok-extras.ensures a.1 rest a.4 in
    let split = ap items_data a.2 ∙ ap (λ l. item (data_of a.0) (items_data l)) b.2 in
    let e = c.in_err-live.field-0.0 in
    let same : c.from_residual-in_err-live.result ≡ Err e = grind arith in
    found_fault raw_value c.next_rows.new.reader rest c.from_residual-in_err-live.result whole e same
    (fails_on e (or_bad (first_in (list_in kept_row_in) (items_data b.1))) whole (c.in_err-live.ensures b.1 rest b.4)
    (λ f h. ap (λ l. kept_told_in One (array l)) split ∙ one_rows (data_of a.0) (data_of b.0) (items_data b.1) f h))

pub returns-in_err-ended-clause-value : goal.returns-in_err-ended-clause-value
returns-in_err-ended-clause-value c = λ js rest at.
    let whole = kept_told_in One (array (items_data js)) in
    let a = c.in_ok-ranges.ensures js rest at in
    let b = c.in_ok-extras.ensures a.1 rest a.4 in
    let d = c.in_ok-live.ensures b.1 rest b.4 in
    let split = ap items_data a.2 ∙ ap (λ l. item (data_of a.0) (items_data l)) b.2 ∙ ap (λ l. item (data_of a.0) (item (data_of b.0) (items_data l))) d.2 in
    let e = c.in_err-ended.field-0.0 in
    let same : c.from_residual-in_err-ended.result ≡ Err e = grind arith in
    found_fault raw_value c.ended.new.reader rest c.from_residual-in_err-ended.result whole e same
    (fails_on e (none_left (items_data d.1)) whole (c.in_err-ended.ensures d.1 rest d.4)
    (λ f h. ap (λ l. kept_told_in One (array l)) split ∙ one_ended (data_of a.0) (data_of b.0) (data_of d.0) (items_data d.1) f h))

pub returns-clause-value : goal.returns-clause-value
returns-clause-value c = λ js rest at.
    let a = c.in_ok-ranges.ensures js rest at in
    let b = c.in_ok-extras.ensures a.1 rest a.4 in
    let d = c.in_ok-live.ensures b.1 rest b.4 in
    let end = c.in_ok-ended.ensures d.1 rest d.4 in
    let split = ap items_data a.2 ∙ ap (λ l. item (data_of a.0) (items_data l)) b.2 ∙ ap (λ l. item (data_of a.0) (item (data_of b.0) (items_data l))) d.2 in (
      ap (λ l. kept_told_in One (array l)) split
          ∙ one_all (data_of a.0) (data_of b.0) (data_of d.0) (items_data d.1) c.in_ok-ranges.ranges.items c.in_ok-extras.extras.items c.in_ok-live.live.items end.0 a.3 b.3 d.3,
      end.1,
    )
