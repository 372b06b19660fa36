use Rattle.std.proofs.Common.{◌≡◌, Some, None, Result, Ok, Err, sym, ap, ◌∙◌, subst, arith}
use Rattle.serde_json.specs.Data.{Data}
use Rattle.serde_json.specs.View.{view}
use Rattle.json_parts.specs.Outline.{shallow}
use Rattle.link_lines.specs.declared.fault.LinkFault.{LinkFault}
use Rattle.link_lines.specs.declared.fault.LinkFault.TheVariants.{BadLine}
use Rattle.link_lines.specs.Results.{◌>>=◌, Answers, or_bad}
use Rattle.link_lines.proofs.Memory.{answers_fault, fails_on}
use Rattle.link_lines.specs.Kinds.{kind_in}
use Rattle.link_lines.specs.Reading.{line_of_kind, line_in}
use Rattle.link_lines.proofs.Entered.{answered}
use Rattle.link_lines.proofs.Outlines.{kind_shallow}
use Rattle.link_lines.proofs.reading.line_of_json.Goals as goal

ok_or : Data → Result Data LinkFault → Data
ok_or d (Ok x) = x
ok_or d (Err e) = d

shows : (x y : Data) → ◌≡◌ {A = Result Data LinkFault} (Ok x) (Ok y) → y ≡ x
unfolding ok_or
shows x y e = sym (ap (ok_or x) e)

pub returns-in_err-value : goal.returns-in_err-value
returns-in_err-value c = λ d read.
    let e = c.in_err-value.field-0.0 in
    let same : c.from_residual.result ≡ Err e = grind arith in
    answers_fault c.from_residual.result (line_in c.args.hearer d) e same
    (fails_on e (Ok (shallow 9 d)) (line_in c.args.hearer d) (c.in_err-value.ensures d read) (λ f k. absurd (cc)))

pub returns-in_err-kind : goal.returns-in_err-kind
returns-in_err-kind c = λ d read.
    let shown : view c.in_ok-value.value ≡ shallow 9 d = shows (shallow 9 d) (view c.in_ok-value.value) (c.in_ok-value.ensures d read) in
    let missing : kind_in (view c.in_ok-value.value) ≡ None = grind arith in
    let none : kind_in d ≡ None = sym (kind_shallow d) ∙ ap kind_in (sym shown) ∙ missing in
    let bad : c.from_residual-in_err-kind.result ≡ Err BadLine = grind arith in
    subst (λ r. Answers r (line_in c.args.hearer d)) (sym bad) (ap (λ o. or_bad o >>= line_of_kind c.args.hearer d) none)

pub returns : goal.returns
returns c = λ d read.
    let kind = c.in_ok-kind.kind in
    let shown : view c.in_ok-value.value ≡ shallow 9 d = shows (shallow 9 d) (view c.in_ok-value.value) (c.in_ok-value.ensures d read) in
    let found : kind_in (view c.in_ok-value.value) ≡ Some kind = grind arith in
    let is : kind_in d ≡ Some kind = sym (kind_shallow d) ∙ ap kind_in (sym shown) ∙ found in
    answered c.args.hearer c.args.text.now d (view c.in_ok-value.value) kind c.in-Ok.reader c.next.new.self c.next.result c.line_of.result
    read is shown c.in-Ok.ensures.ok c.next.ensures.value c.line_of.ensures
