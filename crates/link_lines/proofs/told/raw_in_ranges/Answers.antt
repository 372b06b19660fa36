use Rattle.std.proofs.Common.{◌≡◌, Ok, Err, sym, ap, ◌∙◌, arith}
use Rattle.serde_json.specs.Data.{array, item}
use Rattle.orswot_core.specs.Checks.{raw_value}
use Rattle.orswot_core.specs.declared.form.Form.TheVariants.{Two}
use Rattle.json_parts.specs.Places.{data_of, items_data}
use Rattle.link_lines.specs.ReadingMembers.{first_in, none_left, kept_told_in}
use Rattle.link_lines.specs.Results.{or_bad}
use Rattle.link_lines.specs.Rows.{kept_row_in}
use Rattle.link_lines.specs.Telling.{range_in, list_in}
use Rattle.link_lines.proofs.Memory.{fails_on, found_fault}
use Rattle.link_lines.proofs.RawParts.{two_ranges, two_rows, two_ended, two_all}
use Rattle.link_lines.proofs.told.raw_in_ranges.Goals as goal

pub returns-in_err-ranges-clause-value : goal.returns-in_err-ranges-clause-value
returns-in_err-ranges-clause-value c = λ js rest at.
    let whole = kept_told_in Two (array (items_data js)) in
    let e = c.in_err-ranges.field-0.0 in
    let same : c.from_residual.result ≡ Err e = grind arith in
    found_fault raw_value c.next_ranges.new.reader rest c.from_residual.result whole e same
    (fails_on e (or_bad (first_in (list_in range_in) (items_data js))) whole (c.in_err-ranges.ensures js rest at) (two_ranges (items_data js)))

pub returns-in_err-live-clause-value : goal.returns-in_err-live-clause-value
returns-in_err-live-clause-value c = λ js rest at.
    let whole = kept_told_in Two (array (items_data js)) in
    let a = c.in_ok-ranges.ensures js rest at in
    let split = ap items_data a.2 in
    let e = c.in_err-live.field-0.0 in
    let same : c.from_residual-in_err-live.result ≡ Err e = grind arith in
    found_fault raw_value c.next_rows.new.reader rest c.from_residual-in_err-live.result whole e same
    (fails_on e (or_bad (first_in (list_in kept_row_in) (items_data a.1))) whole (c.in_err-live.ensures a.1 rest a.4)
    (λ f h. ap (λ l. kept_told_in Two (array l)) split ∙ two_rows (data_of a.0) (items_data a.1) f h))

pub returns-in_err-ended-clause-value : goal.returns-in_err-ended-clause-value
returns-in_err-ended-clause-value c = λ js rest at.
    let whole = kept_told_in Two (array (items_data js)) in
    let a = c.in_ok-ranges.ensures js rest at in
    let d = c.in_ok-live.ensures a.1 rest a.4 in
    let split = ap items_data a.2 ∙ ap (λ l. item (data_of a.0) (items_data l)) d.2 in
    let e = c.in_err-ended.field-0.0 in
    let same : c.from_residual-in_err-ended.result ≡ Err e = grind arith in
    found_fault raw_value c.ended.new.reader rest c.from_residual-in_err-ended.result whole e same
    (fails_on e (none_left (items_data d.1)) whole (c.in_err-ended.ensures d.1 rest d.4)
    (λ f h. ap (λ l. kept_told_in Two (array l)) split ∙ two_ended (data_of a.0) (data_of d.0) (items_data d.1) f h))

pub returns-clause-value : goal.returns-clause-value
returns-clause-value c = λ js rest at.
    let a = c.in_ok-ranges.ensures js rest at in
    let d = c.in_ok-live.ensures a.1 rest a.4 in
    let end = c.in_ok-ended.ensures d.1 rest d.4 in
    let split = ap items_data a.2 ∙ ap (λ l. item (data_of a.0) (items_data l)) d.2 in (
      ap (λ l. kept_told_in Two (array l)) split
          ∙ two_all (data_of a.0) (data_of d.0) (items_data d.1) c.in_ok-ranges.ranges.items c.in_ok-live.live.items end.0 a.3 d.3
          ∙ ap (λ l. Ok (record { ranges = c.in_ok-ranges.ranges.items; extras = l; live = c.in_ok-live.live.items })) (sym c.new.ensures.items),
      end.1,
    )
