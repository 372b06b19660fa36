use Rattle.std.proofs.Common.{◌≡◌, true, false, sym, ap, ◌∙◌, rules, arith}
use Rattle.json.specs.Reads.{token_of}
use Rattle.json.specs.Token.{Token}
use Rattle.serde_json.specs.Data.{null, boolean, number, string, array, object, no_items, no_members}
use Rattle.serde_json.specs.View.{view, number_view, items_view, members_view}
use Rattle.serde_json.specs.declared.value.Value.{String, Number, Bool, Null, Array, Object, the_lemmas}
use Rattle.serde_json.proofs.Views.{view-Array, view-Object}
use Rattle.json_parts.specs.Outline.{brief}
use Rattle.json_parts.specs.Places.{number_data, data_of}
use Rattle.json_parts.proofs.Places.{led_as, is_no_value, never_led}
use Rattle.json_parts.proofs.brief.brief_of.Goals as goal

pub returns-in-Null-clause-read : goal.returns-in-Null-clause-read
returns-in-Null-clause-read c = λ j rest at.
    let l = led_as (token_of c.args.token) Token.null c.args.reader.now j rest (ap token_of c.in-Null.is) at in
    let seen : view Null ≡ null = search (rules, the_lemmas) in
    (seen ∙ ap (λ i. brief (data_of i)) (sym l.0), l.1)

pub returns-in-Bool-clause-read : goal.returns-in-Bool-clause-read
returns-in-Bool-clause-read c = λ j rest at.
    let l = led_as (token_of c.args.token) (Token.boolean c.in-Bool.b) c.args.reader.now j rest (ap token_of c.in-Bool.is) at in
    let seen : view (Bool c.in-Bool.b) ≡ boolean c.in-Bool.b = search (rules, the_lemmas) in
    (seen ∙ ap (λ i. brief (data_of i)) (sym l.0), l.1)

pub returns-in-Some-clause-read : goal.returns-in-Some-clause-read
returns-in-Some-clause-read c = λ j rest at.
    let l = led_as (token_of c.args.token) (Token.number c.in-Number.text.now) c.args.reader.now j rest (ap token_of c.in-Number.is) at in
    let seen : view (Number c.in-Some.number) ≡ number (number_view c.in-Some.number) = search (rules, the_lemmas) in
    (seen ∙ ap (λ o. brief (number_data o)) c.in-Some.ensures ∙ ap (λ i. brief (data_of i)) (sym l.0), l.1)

pub returns-in-None-clause-read : goal.returns-in-None-clause-read
returns-in-None-clause-read c = λ j rest at.
    let l = led_as (token_of c.args.token) (Token.number c.in-Number.text.now) c.args.reader.now j rest (ap token_of c.in-Number.is) at in
    let seen : view (Bool false) ≡ boolean false = search (rules, the_lemmas) in
    (seen ∙ ap (λ o. brief (number_data o)) c.in-None.ensures ∙ ap (λ i. brief (data_of i)) (sym l.0), l.1)

pub returns-in_ok-from_str-in-String-clause-read : goal.returns-in_ok-from_str-in-String-clause-read
returns-in_ok-from_str-in-String-clause-read c = λ j rest at.
    let l = led_as (token_of c.args.token) (Token.string c.in-String.text.now) c.args.reader.now j rest (ap token_of c.in-String.is) at in
    let seen : view (String c.in_ok-from_str-in-String.field-0) ≡ string c.in-String.text.now = search (rules, the_lemmas) in
    (seen ∙ ap (λ i. brief (data_of i)) (sym l.0), l.1)

pub returns-in-EndObject-clause-read : goal.returns-in-EndObject-clause-read
returns-in-EndObject-clause-read c = λ j rest at.
    let no : is_no_value (token_of c.args.token) ≡ true = grind arith in
    absurd (never_led (token_of c.args.token) c.args.reader.now j rest no at)

pub returns-in_err-skip_items-in-BeginArray-clause-read : goal.returns-in_err-skip_items-in-BeginArray-clause-read
returns-in_err-skip_items-in-BeginArray-clause-read c = λ j rest at.
    let l = led_as (token_of c.args.token) Token.begin_array c.args.reader.now j rest (ap token_of c.in-BeginArray.is) at in
    let memory = c.in_err-skip_items-in-BeginArray.ensures.passed l.0 rest l.2 in
    grind (arith, memory)

pub returns-in_err-skip_members-in-BeginObject-clause-read : goal.returns-in_err-skip_members-in-BeginObject-clause-read
returns-in_err-skip_members-in-BeginObject-clause-read c = λ j rest at.
    let l = led_as (token_of c.args.token) Token.begin_object c.args.reader.now j rest (ap token_of c.in-BeginObject.is) at in
    let memory = c.in_err-skip_members-in-BeginObject.ensures.passed l.0 rest l.2 in
    grind (arith, memory)

pub returns-in_ok-skip_items-in-BeginArray-clause-read : goal.returns-in_ok-skip_items-in-BeginArray-clause-read
returns-in_ok-skip_items-in-BeginArray-clause-read c = λ j rest at.
    let l = led_as (token_of c.args.token) Token.begin_array c.args.reader.now j rest (ap token_of c.in-BeginArray.is) at in
    let passed = c.in_ok-skip_items-in-BeginArray.ensures.passed l.0 rest l.2 in
    let v = c.new.result in
    let seen : view (Array v) ≡ array no_items = view-Array v ∙ ap (λ vs. array (items_view vs)) c.new.ensures.items in
    (seen ∙ ap (λ i. brief (data_of i)) (sym l.1), passed.1)

pub returns-in_ok-skip_members-in-BeginObject-clause-read : goal.returns-in_ok-skip_members-in-BeginObject-clause-read
returns-in_ok-skip_members-in-BeginObject-clause-read c = λ j rest at.
    let l = led_as (token_of c.args.token) Token.begin_object c.args.reader.now j rest (ap token_of c.in-BeginObject.is) at in
    let passed = c.in_ok-skip_members-in-BeginObject.ensures.passed l.0 rest l.2 in
    let m = c.new-in-BeginObject.result in
    let seen : view (Object m) ≡ object no_members = view-Object m ∙ ap (λ es. object (members_view es)) c.new-in-BeginObject.ensures.empty in
    (seen ∙ ap (λ i. brief (data_of i)) (sym l.1), passed.1)
