use Rattle.std.proofs.Common.{◌≡◌, Err, arith}
use Rattle.serde_json.specs.Data.{array}
use Rattle.orswot_core.specs.Checks.{raw_value}
use Rattle.json_parts.specs.Places.{items_data}
use Rattle.link_lines.specs.Told.{delta_in}
use Rattle.link_lines.proofs.Memory.{answers_fault}
use Rattle.link_lines.proofs.ToldParts.{delta_unread, delta_astray, delta_unsound, delta_sound}
use Rattle.link_lines.proofs.told.delta_of.Goals as goal

pub returns-in_err-raw : goal.returns-in_err-raw
returns-in_err-raw c = λ js rest at.
    let e = c.in_err-raw.field-0.0 in
    let same : c.from_residual.result ≡ Err e = grind arith in
    answers_fault c.from_residual.result (delta_in c.args.shard c.args.hearer c.args.replica.now (array (items_data js))) e same
    (delta_unread c.args.shard c.args.hearer c.args.replica.now c.in-Some.form c.in-Some.is (items_data js) e (c.in_err-raw.ensures.value js rest at))

pub returns-in_err-own : goal.returns-in_err-own
returns-in_err-own c = λ js rest at.
    let read = c.in_ok-raw.ensures.value js rest at in
    let e = c.in_err-own.field-0.0 in
    let same : c.from_residual-in_err-own.result ≡ Err e = grind arith in
    answers_fault c.from_residual-in_err-own.result (delta_in c.args.shard c.args.hearer c.args.replica.now (array (items_data js))) e same
    (delta_astray c.args.shard c.args.hearer c.args.replica.now c.in-Some.form c.in-Some.is (items_data js) (raw_value c.in_ok-raw.raw) e read.0 c.in_err-own.ensures.value)

pub returns-in_err-told : goal.returns-in_err-told
returns-in_err-told c = λ js rest at.
    let read = c.in_ok-raw.ensures.value js rest at in
    let e = c.in_err-told.field-0.0 in
    let same : c.from_residual-in_err-told.result ≡ Err e = grind arith in
    answers_fault c.from_residual-in_err-told.result (delta_in c.args.shard c.args.hearer c.args.replica.now (array (items_data js))) e same
    (delta_unsound c.args.shard c.args.hearer c.args.replica.now c.in-Some.form c.in-Some.is (items_data js) (raw_value c.in_ok-raw.raw) (raw_value c.in_ok-own.own) e
    read.0 c.in_ok-own.ensures.value c.in_err-told.ensures)

pub returns : goal.returns
returns c = λ js rest at.
    let read = c.in_ok-raw.ensures.value js rest at in
    delta_sound c.args.shard c.args.hearer c.args.replica.now c.in-Some.form c.in-Some.is (items_data js) (raw_value c.in_ok-raw.raw) (raw_value c.in_ok-own.own) c.in_ok-told.told
    read.0 c.in_ok-own.ensures.value c.in_ok-told.ensures
