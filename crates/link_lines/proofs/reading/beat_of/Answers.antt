use Rattle.std.proofs.Common.{◌≡◌, Ok, Err, sym, ap, ◌∙◌, subst, arith}
use Rattle.json.specs.Json as json
use Rattle.serde_json.specs.Data.{array}
use Rattle.serde_json.specs.View.{view}
use Rattle.json_parts.specs.Places.{data_of, items_data}
use Rattle.link_lines.specs.declared.fault.LinkFault.TheVariants.{OutOfMemory}
use Rattle.link_lines.specs.Members.{bound_in, replica_in}
use Rattle.link_lines.specs.Results.{◌>>=◌, or_bad}
use Rattle.link_lines.specs.Taken.{lent_six}
use Rattle.link_lines.specs.Told.{delta_in}
use Rattle.link_lines.proofs.Memory.{answers_fault, fails_on, fails_when}
use Rattle.link_lines.specs.declared.lines.Line.TheVariants as lines_are
use Rattle.link_lines.specs.Reading.{shard_in, beat_in}
use Rattle.link_lines.proofs.Walked.{no_beat, beat_astray, beat_of_none, beat_uncounted, beat_last}
use Rattle.link_lines.proofs.reading.beat_of.Goals as goal

pub returns-in_default : goal.returns-in_default
returns-in_default c = λ js rest at seen. no_beat c.args.hearer js (view c.args.value.now) seen (sym c.in_default.ensures)

pub returns-in_err-shard : goal.returns-in_err-shard
returns-in_err-shard c = λ js rest at seen.
    let whole = beat_in c.args.hearer (array (items_data js)) in
    let e = c.in_err-shard.field-0.0 in
    let same : c.from_residual.result ≡ Err e = grind arith in
    let wrong : shard_in c.args.hearer.shards (view c.in-Some.shard.now) ≡ Err e = sym c.in_err-shard.ensures in
    answers_fault c.from_residual.result whole e same
    (fails_when e whole (beat_astray c.args.hearer js (view c.args.value.now) seen (lent_six (c.in-Some.field-0-0, c.in-Some.shard, c.in-Some.name, c.in-Some.incarnation, c.in-Some.count, c.in-Some.field-0-5)) e (sym c.in-Some.ensures) wrong))

pub returns-in_err-replica : goal.returns-in_err-replica
returns-in_err-replica c = λ js rest at seen.
    let whole = beat_in c.args.hearer (array (items_data js)) in
    let e = c.in_err-replica.field-0.0 in
    let same : c.from_residual-in_err-replica.result ≡ Err e = grind arith in
    let right : shard_in c.args.hearer.shards (view c.in-Some.shard.now) ≡ Ok c.in_ok-shard.shard = sym c.in_ok-shard.ensures in
    let none : or_bad (replica_in (view c.in-Some.name.now) (view c.in-Some.incarnation.now)) ≡ Err e = sym (c.in_err-replica.ensures ∙ ap or_bad c.replica_of.ensures) in
    answers_fault c.from_residual-in_err-replica.result whole e same
    (fails_when e whole (beat_of_none c.args.hearer js (view c.args.value.now) seen (lent_six (c.in-Some.field-0-0, c.in-Some.shard, c.in-Some.name, c.in-Some.incarnation, c.in-Some.count, c.in-Some.field-0-5)) c.in_ok-shard.shard e (sym c.in-Some.ensures) right none))

pub returns-in_err-count : goal.returns-in_err-count
returns-in_err-count c = λ js rest at seen.
    let whole = beat_in c.args.hearer (array (items_data js)) in
    let e = c.in_err-count.field-0.0 in
    let same : c.from_residual-in_err-count.result ≡ Err e = grind arith in
    let right : shard_in c.args.hearer.shards (view c.in-Some.shard.now) ≡ Ok c.in_ok-shard.shard = sym c.in_ok-shard.ensures in
    let named : or_bad (replica_in (view c.in-Some.name.now) (view c.in-Some.incarnation.now)) ≡ Ok c.in_ok-replica.replica = sym (c.in_ok-replica.ensures ∙ ap or_bad c.replica_of.ensures) in
    let none : or_bad (bound_in (view c.in-Some.count.now)) ≡ Err e = sym (c.in_err-count.ensures ∙ ap or_bad c.bound_of.ensures) in
    answers_fault c.from_residual-in_err-count.result whole e same
    (fails_when e whole (beat_uncounted c.args.hearer js (view c.args.value.now) seen (lent_six (c.in-Some.field-0-0, c.in-Some.shard, c.in-Some.name, c.in-Some.incarnation, c.in-Some.count, c.in-Some.field-0-5)) c.in_ok-shard.shard c.in_ok-replica.replica e
    (sym c.in-Some.ensures) right named none))

pub returns-in_err-few_items : goal.returns-in_err-few_items
returns-in_err-few_items c = λ js rest at seen.
    let memory = c.in_err-few_items.ensures.few js rest at in
    let none : c.from_residual-in_err-few_items.result ≡ Err OutOfMemory = grind (arith, memory) in
    answers_fault c.from_residual-in_err-few_items.result (beat_in c.args.hearer (array (items_data js))) OutOfMemory none tt

pub returns-in_err-delta : goal.returns-in_err-delta
returns-in_err-delta c = λ js rest at seen.
    let whole = beat_in c.args.hearer (array (items_data js)) in
    let s = c.in_ok-shard.shard in
    let r = c.in_ok-replica.replica in
    let n = c.in_ok-count.count in
    let right : shard_in c.args.hearer.shards (view c.in-Some.shard.now) ≡ Ok s = sym c.in_ok-shard.ensures in
    let named : or_bad (replica_in (view c.in-Some.name.now) (view c.in-Some.incarnation.now)) ≡ Ok r = sym (c.in_ok-replica.ensures ∙ ap or_bad c.replica_of.ensures) in
    let count : or_bad (bound_in (view c.in-Some.count.now)) ≡ Ok n = sym (c.in_ok-count.ensures ∙ ap or_bad c.bound_of.ensures) in
    let read = c.in_ok-few_items.ensures.few js rest at in
    let l = beat_last c.args.hearer js (view c.args.value.now) seen (lent_six (c.in-Some.field-0-0, c.in-Some.shard, c.in-Some.name, c.in-Some.incarnation, c.in-Some.count, c.in-Some.field-0-5)) s r n c.in_ok-few_items.field-0.items c.few_items.new.reader rest
    (sym c.in-Some.ensures) right named count read.0 read.1.0 in
    let e = c.in_err-delta.field-0.0 in
    let same : c.from_residual-in_err-delta.result ≡ Err e = grind arith in
    answers_fault c.from_residual-in_err-delta.result whole e same
    (fails_on e (delta_in s c.args.hearer r (data_of l.0)) whole (c.in_err-delta.ensures.delta l.0 json.no_items rest l.1) (λ g k. l.2 ∙ ap (λ q. q >>= (λ x. Ok (lines_are.Beat s r n x))) k))

pub returns : goal.returns
returns c = λ js rest at seen.
    let s = c.in_ok-shard.shard in
    let r = c.in_ok-replica.replica in
    let n = c.in_ok-count.count in
    let right : shard_in c.args.hearer.shards (view c.in-Some.shard.now) ≡ Ok s = sym c.in_ok-shard.ensures in
    let named : or_bad (replica_in (view c.in-Some.name.now) (view c.in-Some.incarnation.now)) ≡ Ok r = sym (c.in_ok-replica.ensures ∙ ap or_bad c.replica_of.ensures) in
    let count : or_bad (bound_in (view c.in-Some.count.now)) ≡ Ok n = sym (c.in_ok-count.ensures ∙ ap or_bad c.bound_of.ensures) in
    let read = c.in_ok-few_items.ensures.few js rest at in
    let l = beat_last c.args.hearer js (view c.args.value.now) seen (lent_six (c.in-Some.field-0-0, c.in-Some.shard, c.in-Some.name, c.in-Some.incarnation, c.in-Some.count, c.in-Some.field-0-5)) s r n c.in_ok-few_items.field-0.items c.few_items.new.reader rest
    (sym c.in-Some.ensures) right named count read.0 read.1.0 in
    l.2 ∙ ap (λ q. q >>= (λ x. Ok (lines_are.Beat s r n x))) (c.in_ok-delta.ensures.delta l.0 json.no_items rest l.1)
