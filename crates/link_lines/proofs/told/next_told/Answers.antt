use Rattle.std.proofs.Common.{◌≡◌, ◌++◌, Err, sym, ap, ◌∙◌, subst, arith}
use Rattle.json.specs.Tree.{items_tokens}
use Rattle.orswot_core.specs.Checks.{raw_value}
use Rattle.json_parts.specs.Items.{Begins}
use Rattle.json_parts.specs.Places.{data_of}
use Rattle.json.specs.Json as json
use Rattle.link_lines.specs.ReadingMembers.{kept_told_in}
use Rattle.link_lines.specs.Results.{Fails}
use Rattle.link_lines.specs.Told.{told_in}
use Rattle.link_lines.proofs.Lists.{not_array}
use Rattle.link_lines.proofs.Memory.{answers_fault}
use Rattle.link_lines.proofs.ToldParts.{never_begun, begun_array, told_nothing, told_unread, told_unsound, told_sound}
use Rattle.link_lines.proofs.told.next_told.Goals as goal

pub returns-in_default-begin-clause-told : goal.returns-in_default-begin-clause-told
returns-in_default-begin-clause-told c = λ j more rest at.
    let other = not_array c.begin.result c.in_default-begin.not-Array in
    told_nothing c.args.shard c.args.hearer c.in-Some.form c.in-Some.is j more rest c.begin.new.reader c.begin.result (c.begin.ensures.begun (json.item j more) rest at) other

pub returns-in_err-raw-clause-told : goal.returns-in_err-raw-clause-told
returns-in_err-raw-clause-told c = λ j more rest at.
    let b = subst (Begins (json.item j more) rest c.begin.new.reader) c.in-Array.is (c.begin.ensures.begun (json.item j more) rest at) in
    let e = c.in_err-raw.field-0.0 in
    let same : c.from_residual.result ≡ Err e = grind arith in
    let fault = c.in_err-raw.ensures.value b.0 (items_tokens b.1 ++ rest) b.3 in
    answers_fault c.from_residual.result (told_in c.args.shard c.args.hearer (data_of j)) e same
    (told_unread c.args.shard c.args.hearer c.in-Some.form c.in-Some.is (data_of j) e
    (subst (λ d. Fails e (kept_told_in c.in-Some.form d)) (sym (begun_array j more b.0 b.1 b.2)) fault))

pub returns-in_err-told-clause-told : goal.returns-in_err-told-clause-told
returns-in_err-told-clause-told c = λ j more rest at.
    let b = subst (Begins (json.item j more) rest c.begin.new.reader) c.in-Array.is (c.begin.ensures.begun (json.item j more) rest at) in
    let read = c.in_ok-raw.ensures.value b.0 (items_tokens b.1 ++ rest) b.3 in
    let e = c.in_err-told.field-0.0 in
    let same : c.from_residual-in_err-told.result ≡ Err e = grind arith in
    answers_fault c.from_residual-in_err-told.result (told_in c.args.shard c.args.hearer (data_of j)) e same
    (told_unsound c.args.shard c.args.hearer c.in-Some.form c.in-Some.is (data_of j) (raw_value c.in_ok-raw.raw) e
    (ap (kept_told_in c.in-Some.form) (begun_array j more b.0 b.1 b.2) ∙ read.0) c.in_err-told.ensures)

pub returns-clause-told : goal.returns-clause-told
returns-clause-told c = λ j more rest at.
    let b = subst (Begins (json.item j more) rest c.begin.new.reader) c.in-Array.is (c.begin.ensures.begun (json.item j more) rest at) in
    let read = c.in_ok-raw.ensures.value b.0 (items_tokens b.1 ++ rest) b.3 in
    told_sound c.args.shard c.args.hearer c.in-Some.form c.in-Some.is (data_of j) (raw_value c.in_ok-raw.raw) c.in_ok-told.told
    (ap (kept_told_in c.in-Some.form) (begun_array j more b.0 b.1 b.2) ∙ read.0) c.in_ok-told.ensures

pub returns-in_err-raw-clause-none : goal.returns-in_err-raw-clause-none
returns-in_err-raw-clause-none c = λ rest at.
    let b = subst (Begins json.no_items rest c.begin.new.reader) c.in-Array.is (c.begin.ensures.begun json.no_items rest at) in
    absurd (never_begun (json.array b.0) b.1 b.2)

pub returns-in_err-told-clause-none : goal.returns-in_err-told-clause-none
returns-in_err-told-clause-none c = λ rest at.
    let b = subst (Begins json.no_items rest c.begin.new.reader) c.in-Array.is (c.begin.ensures.begun json.no_items rest at) in
    absurd (never_begun (json.array b.0) b.1 b.2)

pub returns-clause-none : goal.returns-clause-none
returns-clause-none c = λ rest at.
    let b = subst (Begins json.no_items rest c.begin.new.reader) c.in-Array.is (c.begin.ensures.begun json.no_items rest at) in
    absurd (never_begun (json.array b.0) b.1 b.2)
