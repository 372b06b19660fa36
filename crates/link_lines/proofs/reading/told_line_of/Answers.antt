use Rattle.std.proofs.Common.{◌≡◌, Ok, Err, sym, ap, ◌∙◌, subst, arith}
use Rattle.json.specs.Json as json
use Rattle.serde_json.specs.Data.{array}
use Rattle.serde_json.specs.View.{view}
use Rattle.json_parts.specs.Places.{data_of, items_data}
use Rattle.link_lines.specs.declared.fault.LinkFault.TheVariants.{OutOfMemory}
use Rattle.link_lines.specs.Results.{◌>>=◌, Answers}
use Rattle.link_lines.specs.Taken.{lent_three}
use Rattle.link_lines.specs.Told.{told_in}
use Rattle.link_lines.proofs.Memory.{answers_fault, fails_on, fails_when}
use Rattle.link_lines.specs.declared.lines.Line.TheVariants as lines_are
use Rattle.link_lines.specs.Reading.{shard_in, told_line_in}
use Rattle.link_lines.proofs.Walked.{no_told, told_astray, told_last}
use Rattle.link_lines.proofs.reading.told_line_of.Goals as goal

pub returns-in_default : goal.returns-in_default
returns-in_default c = λ js rest at seen. no_told c.args.hearer js (view c.args.value.now) seen (sym c.in_default.ensures)

pub returns-in_err-shard : goal.returns-in_err-shard
returns-in_err-shard c = λ js rest at seen.
    let whole = told_line_in c.args.hearer (array (items_data js)) in
    let e = c.in_err-shard.field-0.0 in
    let same : c.from_residual.result ≡ Err e = grind arith in
    let wrong : shard_in c.args.hearer.shards (view c.in-Some.shard.now) ≡ Err e = sym c.in_err-shard.ensures in
    answers_fault c.from_residual.result whole e same
    (fails_when e whole (told_astray c.args.hearer js (view c.args.value.now) seen (lent_three (c.in-Some.field-0-0, c.in-Some.shard, c.in-Some.field-0-2)) e (sym c.in-Some.ensures) wrong))

pub returns-in_err-few_items : goal.returns-in_err-few_items
returns-in_err-few_items c = λ js rest at seen.
    let memory = c.in_err-few_items.ensures.few js rest at in
    let none : c.from_residual-in_err-few_items.result ≡ Err OutOfMemory = grind (arith, memory) in
    answers_fault c.from_residual-in_err-few_items.result (told_line_in c.args.hearer (array (items_data js))) OutOfMemory none tt

pub returns-in_err-told : goal.returns-in_err-told
returns-in_err-told c = λ js rest at seen.
    let whole = told_line_in c.args.hearer (array (items_data js)) in
    let s = c.in_ok-shard.shard in
    let right : shard_in c.args.hearer.shards (view c.in-Some.shard.now) ≡ Ok s = sym c.in_ok-shard.ensures in
    let read = c.in_ok-few_items.ensures.few js rest at in
    let l = told_last c.args.hearer js (view c.args.value.now) seen (lent_three (c.in-Some.field-0-0, c.in-Some.shard, c.in-Some.field-0-2)) s c.in_ok-few_items.field-0.items c.few_items.new.reader rest
    (sym c.in-Some.ensures) right read.0 read.1.0 in
    let e = c.in_err-told.field-0.0 in
    let same : c.from_residual-in_err-told.result ≡ Err e = grind arith in
    answers_fault c.from_residual-in_err-told.result whole e same
    (fails_on e (told_in s c.args.hearer (data_of l.0)) whole (c.in_err-told.ensures.told l.0 json.no_items rest l.1) (λ g k. l.2 ∙ ap (λ q. q >>= (λ t. Ok (lines_are.Told s t))) k))

pub returns : goal.returns
returns c = λ js rest at seen.
    let s = c.in_ok-shard.shard in
    let right : shard_in c.args.hearer.shards (view c.in-Some.shard.now) ≡ Ok s = sym c.in_ok-shard.ensures in
    let read = c.in_ok-few_items.ensures.few js rest at in
    let l = told_last c.args.hearer js (view c.args.value.now) seen (lent_three (c.in-Some.field-0-0, c.in-Some.shard, c.in-Some.field-0-2)) s c.in_ok-few_items.field-0.items c.few_items.new.reader rest
    (sym c.in-Some.ensures) right read.0 read.1.0 in
    l.2 ∙ ap (λ q. q >>= (λ t. Ok (lines_are.Told s t))) (c.in_ok-told.ensures.told l.0 json.no_items rest l.1)
